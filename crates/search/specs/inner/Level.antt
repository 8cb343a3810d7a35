-- What holds on a level of the tree of orders while the search walks it.
use Rattle.std.specs.Prelude.{ℕ, List, ◌≡◌}
use Rattle.theory.specs.Problem.{Problem, Row, top}
use Rattle.theory.specs.Walk.{Tally}
use Rattle.search.specs.declared.setting.Setting.{Setting}
use Rattle.search.specs.declared.walk.Level.{Level}
use Rattle.search.specs.inner.Arrays.{problem_of, rows_of}
use Rattle.search.specs.inner.Kept.{Ready, Mendable, Mended}
use Rattle.search.specs.inner.Tries.{tried_from, gone_into}

-- the problem that a walk is about
abbrev pub posed : Setting → Problem
posed s = problem_of s.table s.widths s.guard

-- the rows of the demands that are put down
abbrev pub rows_at : Level → List Row
rows_at l = rows_of l.low l.order l.placed

-- on this level the walk may go on, and the largest end is known
pub record ReadyAt (s : Setting) (l : Level) : Type 0 where
  pub ready : Ready s.table s.widths s.guard s.count l.order l.low l.past l.placed
  pub top_is : l.top ≡ top (posed s) (rows_at l)

-- the demand at place `placed` has just been put down; those from place p on have their lowest starts over the rows before it
abbrev pub MendableAt : Setting → Level → ℕ → Type 0
MendableAt s l p = Mendable s.table s.widths s.guard s.count l.order l.low l.past l.placed p

-- the lowest starts of all that come after place `placed` are mended
abbrev pub MendedAt : Setting → Level → List ℕ → Type 0
MendedAt s l mended = Mended s.table s.widths s.guard s.count l.order l.low l.placed s.count mended

-- what trying the demands from place p on makes of a tally
abbrev pub tried_at : Setting → Level → ℕ → Tally → Tally
tried_at s l p t = tried_from (posed s) s.limit s.bound s.count l.order l.low l.placed p t

-- what putting the demand at place p down, and walking on below it, makes of a tally
abbrev pub gone_at : Setting → Level → ℕ → Tally → Tally
gone_at s l p t = gone_into (posed s) s.limit s.bound s.count l.order l.low l.placed p t
