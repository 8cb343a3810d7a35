-- The walk over the tree of partial orders, depth first: what one step does, what is counted, and when it stops.
use Prim.Native.Nat.{ℕ, zero, suc, ◌+◌}
use Rattle.std.specs.Prelude.{Bool, true, false, leb, ltb, eqb}
use Rattle.std.proofs.Math.Bool.{cond}
use mathlib.Core.List.{List, [], ◌∷◌, ◌++◌}
use Rattle.theory.specs.Problem.{Problem, Row, place, top}
use Rattle.theory.specs.Orders.{factorial}

-- the best plan so far, with the order that gave it
pub data Best : Type 0 where
  none_met : Best
  met : List Row → List ℕ → Best

-- the walk goes on, has met the bound, or a step was due with none left
pub data Course : Type 0 where
  going : Course
  at_bound : Course
  out_of_steps : Course

-- what the walk carries: its counts, the mark to beat, the best plan and whether it goes on
pub record Tally : Type 0 where
  pub steps : ℕ
  pub reached : ℕ
  pub ruled : ℕ
  pub mark : ℕ
  pub best : Best
  pub course : Course

-- one more step
unfoldable pub stepped : Tally → Tally
stepped t =
    record { steps = t.steps + 1; reached = t.reached; ruled = t.ruled; mark = t.mark; best = t.best; course = t.course }

-- so many more orders ruled out
unfoldable pub leave : ℕ → Tally → Tally
leave n t =
    record { steps = t.steps; reached = t.reached; ruled = t.ruled + n; mark = t.mark; best = t.best; course = t.course }

-- a step was due, and none was left
unfoldable pub exhausted : Tally → Tally
exhausted t =
    record { steps = t.steps; reached = t.reached; ruled = t.ruled; mark = t.mark; best = t.best; course = out_of_steps }

-- one more order reached, no better than the best
unfoldable pub equalled : Tally → Tally
equalled t =
    record { steps = t.steps; reached = t.reached + 1; ruled = t.ruled; mark = t.mark; best = t.best; course = t.course }

-- one more order reached, the best so far, ending at e
unfoldable pub improved : ℕ → List Row → List ℕ → Course → Tally → Tally
improved e rows order next t =
    record { steps = t.steps; reached = t.reached + 1; ruled = t.ruled; mark = e; best = met rows order; course = next }

-- whether the walk goes on
unfoldable pub goes_on : Course → Bool
goes_on going = true
goes_on at_bound = false
goes_on out_of_steps = false

module _ (P : Problem) (limit bound : ℕ) where
  -- a complete order: it is reached; below the mark it becomes the best, and at the bound the walk ends
  unfoldable pub complete : List Row → List ℕ → Tally → Tally
  unfolding equalled improved
  complete rows order t =
      cond (ltb (top P rows) t.mark)
      (improved (top P rows) rows order (cond (eqb (top P rows) bound) at_bound t.course) t)
      (equalled t)

  -- after a step, with n demands left to place: complete, left because its end is not below the mark, or gone into
  unfoldable pub judge : (List Row → List ℕ → List ℕ → Tally → Tally) → ℕ → List Row → List ℕ → List ℕ → Tally → Tally
  unfolding complete leave factorial
  judge deeper zero rows path left t = complete rows path t
  judge deeper (suc n) rows path left t =
      let below : Tally = deeper rows path left t in
      cond (ltb (top P rows) t.mark) below (leave (factorial (suc n)) t)

  -- a step is due: demand i is put at its lowest start, unless the limit is used up
  unfoldable pub step : (List Row → List ℕ → List ℕ → Tally → Tally) → ℕ → List Row → List ℕ → ℕ → List ℕ → Tally → Tally
  unfolding exhausted judge stepped
  step deeper n rows path i left t =
      let judged : Tally = judge deeper n (place P rows i) (path ++ (i ∷ [])) left (stepped t) in
      cond (leb limit t.steps) (exhausted t) judged

  -- the siblings in listing order, each followed by those after it while the walk goes on
  unfoldable pub siblings : (List Row → List ℕ → List ℕ → Tally → Tally) → ℕ → List Row → List ℕ → List ℕ → List ℕ → Tally → Tally
  unfolding goes_on step
  siblings deeper n rows path before [] t = t
  siblings deeper n rows path before (i ∷ after) t =
      let stood : Tally = step deeper n rows path i (before ++ after) t in
      let later : Tally = siblings deeper n rows path (before ++ (i ∷ [])) after stood in
      cond (goes_on stood.course) later stood

  -- below the rows placed along a path stand the n demands not yet placed
  unfoldable pub walk : ℕ → List Row → List ℕ → List ℕ → Tally → Tally
  unfolding complete siblings
  walk zero rows path left t = complete rows path t
  walk (suc n) rows path left t = siblings (walk n) n rows path [] left t
