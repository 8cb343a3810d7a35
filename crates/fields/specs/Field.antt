-- A field of a file: a tag, the length of its body, and the body.
use Rattle.refusal.specs.declared.Refusal.{Refusal}
use Rattle.std.specs.Prelude.{ℕ, ◌+◌, ◌*◌, ◌&&◌, List, length, get_or, leb, eqb, Result}
use Rattle.refusal.specs.declared.Refusal.TheVariants.{PastEnd, WrongTag, WrongLength}
use Rattle.request.specs.Check.{then, must}

-- the number of two bytes, the high byte first
unfoldable pub number16 : List ℕ → ℕ → ℕ
number16 s at = 256 * get_or s at 0 + get_or s (at + 1) 0

-- how many bytes the body of the field at an offset has
unfoldable pub body_length : List ℕ → ℕ → ℕ
unfolding number16
body_length s at = number16 s (at + 1)

-- where that field ends; a header that is cut short ends past the file already
unfoldable pub field_end : List ℕ → ℕ → ℕ
unfolding body_length
field_end s at = at + 3 + body_length s at

-- every field: 1 where it runs past the end, 2 where another tag must stand there, 3 where its length is not least to most
unfoldable pub check_field : List ℕ → ℕ → ℕ → ℕ → ℕ → Result Unit Refusal
unfolding then must body_length field_end
check_field s at tag least most =
    then (must (leb (field_end s at) (length s)) (PastEnd at))
    (then (must (eqb (get_or s at 0) tag) (WrongTag at))
    (must (leb least (body_length s at) && leb (body_length s at) most) (WrongLength at)))
