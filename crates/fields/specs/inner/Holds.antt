-- What a sound field says.
use Rattle.std.specs.Prelude.{ℕ, ◌+◌, ◌≤◌, List, ◌≡◌, length, get_or}
use Rattle.fields.specs.Field.{number16}

-- what a sound field says: it ends within the file, its tag is the one that must stand there, its length is least to most
pub record FieldHolds (s : List ℕ) (at tag least most : ℕ) : Type 0 where
  pub within : at + 3 + number16 s (at + 1) ≤ length s
  pub tagged : get_or s at 0 ≡ tag
  pub long_enough : least ≤ number16 s (at + 1)
  pub short_enough : number16 s (at + 1) ≤ most
