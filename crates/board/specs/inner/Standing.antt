-- Rows on the board: arrays that hold by number where each starts and where it ends.
use Rattle.std.specs.Prelude.{ℕ, ◌+◌, ◌≤◌, ◌<◌, ◌≡◌, get_or}
use mathlib.Core.List.{List, Memᴰ}
use Rattle.theory.specs.Problem.{Problem, Row}

-- the first K demands of a problem have room on the board: each holds a slot, and the same guard is kept between any two
pub record OnBoard (P : Problem) (K guard : ℕ) : Type 0 where
  pub few : K ≤ 200
  pub wide : (j : ℕ) → j < K → 1 ≤ P.width j
  pub gaps : (i j : ℕ) → P.gap i j ≡ guard

-- the arrays hold where a row's demand starts and where it ends
pub record HeldBy (P : Problem) (K : ℕ) (at ends : List ℕ) (r : Row) : Type 0 where
  pub position : r.who < K
  pub starts : get_or at r.who 0 ≡ r.at
  pub ends_at : get_or ends r.who 0 ≡ r.at + P.width r.who

-- a row of number j
pub record RowOf (rows : List Row) (j : ℕ) : Type 0 where
  pub row : Row
  pub stands : Memᴰ row rows
  pub number : row.who ≡ j

-- the arrays hold the rows, and nothing but the rows
pub record Standing (P : Problem) (K : ℕ) (rows : List Row) (at ends : List ℕ) : Type 0 where
  pub held : (r : Row) → Memᴰ r rows → HeldBy P K at ends r
  pub only : (j : ℕ) → 0 < get_or ends j 0 → RowOf rows j
