-- A route as marks: a mark for each link number that stands in it.
use Rattle.std.specs.Prelude.{ℕ, ◌<◌, Bool, false, List, ◌≡◌, length, get_or}
use Rattle.request.specs.Check.{has}

-- a link is marked
unfoldable pub marked_in : List Bool → ℕ → Bool
marked_in marks a = get_or marks a false

-- the marks, n of them, are those of a list: of the first n numbers, all that stand in it
pub record MarksOf (n : ℕ) (list : List ℕ) (marks : List Bool) : Type 0 where
  pub full : length marks ≡ n
  pub marked : (x : ℕ) → x < n → marked_in marks x ≡ has x list
