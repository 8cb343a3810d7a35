-- What the search keeps while it walks: each demand once in the order, and the lowest start of each that is not placed.
use Rattle.std.specs.Prelude.{ℕ, ◌+◌, ◌≤◌, ◌<◌, Bool, false, List, [], ◌≡◌, get_or, length}
use Rattle.theory.specs.Problem.{lowest, top}
use Rattle.search.specs.inner.Arrays.{problem_of, rows_of}

-- the sizes that a search takes: K demands, their widths and guard, and a table that reads alike both ways
pub record Sized (table : List (List Bool)) (widths : List ℕ) (guard K : ℕ) : Type 0 where
  pub few : K ≤ 20
  pub narrow : (i : ℕ) → i < K → get_or widths i 0 ≤ 384
  pub guarded : guard ≤ 8
  pub even : (i j : ℕ) → i < K → j < K → get_or (get_or table i []) j false ≡ get_or (get_or table j []) i false

-- where a demand stands in an order
pub record Place (K : ℕ) (order : List ℕ) (k : ℕ) : Type 0 where
  pub at : ℕ
  pub within : at < K
  pub there : get_or order at 0 ≡ k

-- the first K entries of an order are the demands below K, each once
pub record Listed (K : ℕ) (order : List ℕ) : Type 0 where
  pub room : K ≤ length order
  pub inside : (p : ℕ) → p < K → get_or order p 0 < K
  pub once : (p q : ℕ) → p < K → q < K → get_or order p 0 ≡ get_or order q 0 → p ≡ q
  pub all : (k : ℕ) → k < K → Place K order k

-- of the first n in the order the place past each, guard included, is known; of the others it is 0
pub record Passed (widths : List ℕ) (guard K : ℕ) (order low past : List ℕ) (n : ℕ) : Type 0 where
  pub room_low : K ≤ length low
  pub room_past : K ≤ length past
  pub ended : (p : ℕ) → p < n → get_or past (get_or order p 0) 0 ≡ get_or low (get_or order p 0) 0 + get_or widths (get_or order p 0) 0 + guard
  pub unset : (p : ℕ) → n ≤ p → p < K → get_or past (get_or order p 0) 0 ≡ 0

-- each demand from place p of the order on has its lowest start over the first n
unfoldable pub Lowest : List (List Bool) → List ℕ → ℕ → ℕ → List ℕ → List ℕ → ℕ → ℕ → Type 0
Lowest table widths guard K order low n from =
    (p : ℕ) → from ≤ p → p < K →
    get_or low (get_or order p 0) 0 ≡ lowest (problem_of table widths guard) (rows_of low order n) (get_or order p 0)

-- with n demands placed, the walk may go on: all of the above, and no end above 384
pub record Ready (table : List (List Bool)) (widths : List ℕ) (guard K : ℕ) (order low past : List ℕ) (n : ℕ) : Type 0 where
  pub sized : Sized table widths guard K
  pub listed : Listed K order
  pub passed : Passed widths guard K order low past n
  pub kept : Lowest table widths guard K order low n n
  pub below : top (problem_of table widths guard) (rows_of low order n) ≤ 384

-- the demand at place n of the order has just been put down beside the first n; those from place p on have their lowest starts
-- over the first n
pub record Mendable (table : List (List Bool)) (widths : List ℕ) (guard K : ℕ) (order low past : List ℕ) (n p : ℕ) : Type 0 where
  pub sized : Sized table widths guard K
  pub listed : Listed K order
  pub within : n < K
  pub passed : Passed widths guard K order low past (n + 1)
  pub kept : Lowest table widths guard K order low n p
  pub below : top (problem_of table widths guard) (rows_of low order (n + 1)) ≤ 384

-- lowest starts mended after the demand at place n, up to place p of the order: the starts up to place n, and those from place p on, are as before
pub record Mended (table : List (List Bool)) (widths : List ℕ) (guard K : ℕ) (order low : List ℕ) (n p : ℕ) (mended : List ℕ) : Type 0 where
  pub long : length mended ≡ length low
  pub placed : (q : ℕ) → q ≤ n → get_or mended (get_or order q 0) 0 ≡ get_or low (get_or order q 0) 0
  pub done : (q : ℕ) → n < q → q < p → q < K →
      get_or mended (get_or order q 0) 0 ≡ lowest (problem_of table widths guard) (rows_of low order (n + 1)) (get_or order q 0)
  pub left : (q : ℕ) → p ≤ q → q < K → get_or mended (get_or order q 0) 0 ≡ get_or low (get_or order q 0) 0

-- the entry at place p brought forward to place n, those between one back, the others where they were
pub record Brought (order : List ℕ) (n p : ℕ) (brought : List ℕ) : Type 0 where
  pub long : length brought ≡ length order
  pub front : (q : ℕ) → q < n → get_or brought q 0 ≡ get_or order q 0
  pub first : get_or brought n 0 ≡ get_or order p 0
  pub between : (q : ℕ) → n ≤ q → q < p → get_or brought (q + 1) 0 ≡ get_or order q 0
  pub back : (q : ℕ) → p < q → get_or brought q 0 ≡ get_or order q 0

-- half way there: the entries from place p up to place at are one back, the others where they were
pub record Shifted (order : List ℕ) (at p : ℕ) (shifted : List ℕ) : Type 0 where
  pub long : length shifted ≡ length order
  pub front : (q : ℕ) → q ≤ p → get_or shifted q 0 ≡ get_or order q 0
  pub between : (q : ℕ) → p ≤ q → q < at → get_or shifted (q + 1) 0 ≡ get_or order q 0
  pub back : (q : ℕ) → at < q → get_or shifted q 0 ≡ get_or order q 0
