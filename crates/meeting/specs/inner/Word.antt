-- A route as one word: a bit for each link number below 64 that stands in it.
use Rattle.std.specs.Prelude.{ℕ, zero, suc, ◌/◌, ◌%◌, ◌^◌, ◌<◌, Bool, List, ◌≡◌, eqb, ltb}
use Rattle.std.specs.List.{list_all}
use Rattle.request.specs.Check.{has}

-- the bit of a word at a place, the lowest at 0
unfoldable pub bit_of : ℕ → ℕ → Bool
bit_of word zero = eqb (word % 2) 1
bit_of word (suc x) = bit_of (word / 2) x

-- the word is that of a list: of the numbers below 64 it holds all that stand in the list, and nothing above them
pub record WordOf (list : List ℕ) (word : ℕ) : Type 0 where
  pub short : word < 2 ^ 64
  pub bits : (x : ℕ) → x < 64 → bit_of word x ≡ has x list

-- a word has a bit for each number of the list: all are below 64
unfoldable pub all_low : List ℕ → Bool
all_low list = list_all (λ (x : ℕ). ltb x 64) list
