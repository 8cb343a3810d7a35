-- What stands, as the scan sees it: blocks of slots, each with its guard.
use Rattle.std.specs.Prelude.{ℕ, ◌+◌, ◌-◌, ◌≤◌, ◌<◌, Bool, true, false, cond, ◌&&◌, List, ◌≡◌, ltb, get_or, Option, Some, None}
use Rattle.theory.specs.Problem.{Problem, apart}

-- the problem of placing number 200 beside blocks: block j ends, its guard included, at past j, which is 0 where it is not in the way;
-- number 200 spans so many slots, its guard included
unfoldable pub near_problem : List ℕ → List ℕ → ℕ → Problem
near_problem past starts span =
    record {
      width = λ j. cond (ltb j 200) (get_or past j 0 - get_or starts j 0) span;
      joined = λ j i. ltb 0 (get_or past j 0);
      gap = λ j i. 0;
    }

-- there are at most 200 blocks, and none that is in the way ends before it starts
pub record Blocks (past starts : List ℕ) (n : ℕ) : Type 0 where
  pub few : n ≤ 200
  pub ends_after : (j : ℕ) → j < n → 0 < get_or past j 0 → get_or starts j 0 ≤ get_or past j 0

-- an array that holds where each number that is met, and holds a slot, ends, the guard included; 0 for the others
pub record PastEnds (meets : List Bool) (starts ends : List ℕ) (guard n : ℕ) (past : List ℕ) : Type 0 where
  pub ends_are : (j : ℕ) → j < n →
      get_or past j 0 ≡ cond (get_or meets j false && ltb (get_or starts j 0) (get_or ends j 0)) (get_or ends j 0 + guard) 0

-- no block before j is in the way at s
unfoldable pub ClearTo : List ℕ → List ℕ → ℕ → ℕ → ℕ → Type 0
ClearTo past starts span s j = (k : ℕ) → k < j → apart (near_problem past starts span) k (get_or starts k 0) 200 s ≡ true

-- what a scan that stops at a limit has found: a start below the limit
unfoldable pub spot_below : ℕ → ℕ → Option ℕ
spot_below start above = cond (ltb start above) (Some start) None
