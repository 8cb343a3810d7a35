-- The search: the walk from its start, and the answer that it gives.
use Rattle.std.specs.Prelude.{ℕ, zero, suc, ◌+◌, ◌*◌, Bool, true, false, cond, List, [], ◌∷◌, length, ltb}
use Rattle.theory.specs.Problem.{Problem, Row, top}
use Rattle.theory.specs.Orders.{factorial}
use Rattle.theory.specs.Walk.{Best, none_met, met, Course, going, at_bound, out_of_steps, Tally, walk}

-- finished with the lowest end, nothing fits, or stopped for want of steps with or without a plan
pub data Outcome : Type 0 where
  finished : ℕ → Outcome
  nothing_fits : Outcome
  unfinished : ℕ → Outcome
  unfinished_empty : Outcome

-- whether an outcome settles the question
unfoldable pub settled : Outcome → Bool
settled (finished e) = true
settled nothing_fits = true
settled (unfinished e) = false
settled unfinished_empty = false

-- what a search answers
pub record Answer : Type 0 where
  pub outcome : Outcome
  pub bound : ℕ
  pub steps : ℕ
  pub reached : ℕ
  pub ruled : ℕ
  pub best : Best

-- the walk's start: nothing counted, nothing met, a mark to beat
unfoldable pub fresh : ℕ → Tally
fresh mark = record { steps = 0; reached = 0; ruled = 0; mark = mark; best = none_met; course = going }

-- how a walk came out: cut short or not, with a plan or without; a plan's end is the mark
unfoldable pub outcome_of : Course → Best → ℕ → Outcome
outcome_of going none_met mark = nothing_fits
outcome_of going (met rows order) mark = finished mark
outcome_of at_bound none_met mark = nothing_fits
outcome_of at_bound (met rows order) mark = finished mark
outcome_of out_of_steps none_met mark = unfinished_empty
outcome_of out_of_steps (met rows order) mark = unfinished mark

-- the answer that a walk's tally gives
unfoldable pub conclude : ℕ → Tally → Answer
unfolding outcome_of
conclude bound t =
    record {
      outcome = outcome_of t.course t.best t.mark;
      bound = bound;
      steps = t.steps;
      reached = t.reached;
      ruled = t.ruled;
      best = t.best;
    }

-- the bound is above S: nothing fits, and all n! orders are ruled out without a step
unfoldable pub too_narrow : ℕ → ℕ → Answer
unfolding factorial
too_narrow bound n =
    record { outcome = nothing_fits; bound = bound; steps = 0; reached = 0; ruled = factorial n; best = none_met }

-- nothing is left to place: finished at once with the rows that stand, one order reached
unfoldable pub at_once : Problem → ℕ → List Row → Answer
unfolding top
at_once P bound rows =
    record { outcome = finished (top P rows); bound = bound; steps = 0; reached = 1; ruled = 0; best = met rows [] }

-- the walk over a list that is not empty
unfoldable pub search_walk : Problem → ℕ → ℕ → ℕ → List Row → List ℕ → Answer
unfolding conclude walk fresh
search_walk P S bound limit rows [] = at_once P bound rows
search_walk P S bound limit rows (i ∷ todo) =
    conclude bound (walk P limit bound (suc (length todo)) rows [] (i ∷ todo) (fresh (S + 1)))

-- the search for the lowest end: over the rows that stand, for the demands to place, inside S slots, with so many steps allowed
unfoldable pub search : Problem → ℕ → ℕ → ℕ → List Row → List ℕ → Answer
unfolding too_narrow search_walk
search P S bound limit rows todo =
    let walked : Answer = search_walk P S bound limit rows todo in
    cond (ltb S bound) (too_narrow bound (length todo)) walked

-- the steps of the whole tree over n demands, no branch left: a step for each of them, and below it the tree over the others
unfoldable pub tree_steps : ℕ → ℕ
tree_steps zero = 0
tree_steps (suc n) = suc n * (1 + tree_steps n)

-- the search without a limit: it may take the steps of the whole tree, and no walk takes more
unfoldable pub unlimited : Problem → ℕ → ℕ → List Row → List ℕ → Answer
unfolding search tree_steps
unlimited P S bound rows todo = search P S bound (tree_steps (length todo)) rows todo

-- the steps that the search needs: those that it takes without a limit
unfoldable pub steps_needed : Problem → ℕ → ℕ → List Row → List ℕ → ℕ
unfolding unlimited
steps_needed P S bound rows todo = (unlimited P S bound rows todo).steps
