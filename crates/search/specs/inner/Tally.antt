-- What the counts of the search stand for.
use Rattle.std.specs.Prelude.{ℕ, ◌+◌, ◌≤◌, cond, List, Option, Some, None, ◌≡◌, ltb, eqb}
use Rattle.theory.specs.Orders.{factorial}
use Rattle.theory.specs.Problem.{Row}
use Rattle.theory.specs.Walk as walk
use Rattle.search.specs.declared.tally.Course.{Course}
use Rattle.search.specs.declared.tally.Course.TheVariants.{Going, AtBound, OutOfSteps}
use Rattle.search.specs.declared.tally.Plan.{Plan}
use Rattle.search.specs.declared.tally.Tally.{Tally}
use Rattle.search.specs.inner.Arrays.{entries, rows_of}

-- whether the walk goes on, in the theory's words
unfoldable pub course_of : Course → walk.Course
course_of Going = walk.going
course_of AtBound = walk.at_bound
course_of OutOfSteps = walk.out_of_steps

-- no plan, or the plan of K demands with these starts, in this order
unfoldable pub best_of : ℕ → Option Plan → walk.Best
unfolding entries rows_of
best_of K None = walk.none_met
best_of K (Some plan) = walk.met (rows_of plan.starts plan.order K) (entries plan.order 0 K)

-- the tally in the theory's words
unfoldable pub tally_of : ℕ → Tally → walk.Tally
unfolding course_of best_of
tally_of K t =
    record {
      steps = t.steps;
      reached = t.reached;
      ruled = t.ruled;
      mark = t.mark;
      best = best_of K t.best;
      course = course_of t.course;
    }

-- a complete order that ends at e is reached: below the mark it becomes the best, and at the bound the walk ends
unfoldable pub reached_at : ℕ → ℕ → List Row → List ℕ → walk.Tally → walk.Tally
reached_at e bound rows order t =
    cond (ltb e t.mark) (walk.improved e rows order (cond (eqb e bound) walk.at_bound t.course) t) (walk.equalled t)

-- a walk that goes on, with room to count so many orders more
pub record Counting (t : Tally) (orders : ℕ) : Type 0 where
  pub on : t.course ≡ Going
  pub room : t.reached + t.ruled + orders ≤ factorial 20
  pub low_mark : t.mark ≤ 385
