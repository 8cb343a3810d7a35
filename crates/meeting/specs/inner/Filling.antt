-- An array that a loop fills from the front.
use Rattle.std.specs.Prelude.{ℕ, ◌<◌, cond, List, ◌≡◌, ltb, length, get_or}

-- of an array of n entries the first j are what f says, and the others as at the start
pub record FilledTo (A : Type 0) (f : ℕ → A) (start : A) (n j : ℕ) (array : List A) : Type 0 where
  pub full : length array ≡ n
  pub entry : (k : ℕ) → k < n → get_or array k start ≡ cond (ltb k j) (f k) start
