-- First fit as it goes on: what is asked of it, and how far it has come.
use Rattle.std.specs.Prelude.{ℕ, ◌-◌, ◌≤◌, ◌<◌, List, [], ◌≡◌, length, get_or, take, drop, Result, Ok, Err}
use Rattle.refusal.specs.declared.Refusal.TheVariants.{NoStart}
use Rattle.theory.specs.Blocker.{blocker_at, blocker_in}
use Rattle.theory.specs.Earlier.{NoRepeats}
use Rattle.theory.specs.Problem.{Problem, Row, fill, top, start_in, Fitted, placed, refused, first_fit}
use Rattle.board.specs.inner.Standing.{Standing}
use Rattle.meeting.specs.declared.Compact.{Compact}
use Rattle.meeting.specs.inner.Small.{Small, problem_in}
use Rattle.placing.specs.declared.Unplaced.{Unplaced}
use Rattle.placing.specs.declared.Unplaced.TheVariants as unplaced
use Rattle.placing.specs.FirstFit.{blocker_entry}

-- a small request with an order of some of its demands, none twice
pub record OrderAsked (c : Compact) (order : List ℕ) : Type 0 where
  pub small : Small c
  pub positions : (m : ℕ) → m < length order → get_or order m 0 < c.count
  pub once : NoRepeats order

-- first fit of a small request's problem along an order, inside the band
unfoldable pub fitted_in : Compact → List ℕ → Fitted
unfolding problem_in first_fit
fitted_in c order = first_fit (problem_in c) c.slots [] order

-- the reply to a fitting
unfoldable pub reply_in : Compact → Fitted → Result ℕ Unplaced
unfolding problem_in blocker_entry blocker_at
reply_in c (placed rows) = Ok (top (problem_in c) rows)
reply_in c (refused rows i) = Err (unplaced.Blocked (NoStart i) (blocker_entry (blocker_at (problem_in c) rows i (c.slots - (problem_in c).width i))))

-- arrays of 200 entries that hold, if all are placed, the starts and the blockers by listing position
pub record PlanKept (P : Problem) (out : Fitted) (at by : List ℕ) : Type 0 where
  pub starts_full : length at ≡ 200
  pub blockers_full : length by ≡ 200
  pub starts_are : (rows : List Row) → out ≡ placed rows → (j : ℕ) → j < 200 → get_or at j 0 ≡ start_in rows j
  pub blockers_are : (rows : List Row) → out ≡ placed rows → (j : ℕ) → j < 200 → get_or by j 0 ≡ blocker_entry (blocker_in P rows j)

-- the first k demands of the order are placed
pub record PlacedTo (c : Compact) (order : List ℕ) (k end : ℕ) (at by ends : List ℕ) : Type 0 where
  -- the others are still to place
  pub rest : fitted_in c order ≡ first_fit (problem_in c) c.slots (fill (problem_in c) [] (take k order)) (drop k order)
  -- the largest end
  pub end_is : end ≡ top (problem_in c) (fill (problem_in c) [] (take k order))
  pub end_within : end ≤ c.slots
  -- the starts and the blockers by listing position
  pub starts_are : (j : ℕ) → j < 200 → get_or at j 0 ≡ start_in (fill (problem_in c) [] (take k order)) j
  pub starts_full : length at ≡ 200
  pub blockers_are : (j : ℕ) → j < 200 → get_or by j 0 ≡ blocker_entry (blocker_in (problem_in c) (fill (problem_in c) [] (take k order)) j)
  pub blockers_full : length by ≡ 200
  -- what stands
  pub standing : Standing (problem_in c) c.count (fill (problem_in c) [] (take k order)) at ends
  pub ends_full : length ends ≡ 200
