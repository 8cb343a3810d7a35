use Rattle.std.proofs.Common.{◌≡◌, ℕ, Bool, true, false, refl, sym, ap, ap₂, Option, is_some}
use Rattle.search.specs.declared.Outcome.{Outcome}
use Rattle.search.specs.declared.call.Found.{Found}
use Rattle.search.specs.declared.tally.Course.{Course}
use Rattle.search.specs.declared.tally.Course.TheVariants.{Going, AtBound, OutOfSteps}
use Rattle.search.specs.declared.tally.Plan.{Plan}
use Rattle.search.specs.declared.tally.Tally.{Tally}
use Rattle.search.specs.Reply.{outcome_by}
use Rattle.search.specs.inner.Tally.{course_of}
use Rattle.search.specs.inner.Told.{is_spent}
use Rattle.search.proofs.call.found_by_walk.Goals as goal

-- what is found with an outcome
abbrev with : Tally → ℕ → Outcome → Found
with t need o =
    record {
      answer = record { outcome = o; bound = need; steps = t.steps; reached = t.reached; ruled = t.ruled };
      plan = t.best;
    }

-- the outcome goes by whether the steps were spent and a plan was met
came : (t : Tally) (need : ℕ) (spent found : Bool) → is_spent (course_of t.course) ≡ spent → is_some t.best ≡ found →
    with t need (outcome_by spent found t.mark) ≡ with t need (outcome_by (is_spent (course_of t.course)) (is_some t.best) t.mark)
came t need spent found hs hf = ap (with t need) (ap₂ (λ (s f : Bool). outcome_by s f t.mark) (sym hs) (sym hf))

-- a walk that did not run out of steps has not spent them
unspent : (c : Course) → (c ≡ OutOfSteps → ⊥) → is_spent (course_of c) ≡ false
unfolding is_spent course_of
unspent Going h = refl
unspent AtBound h = refl
unspent OutOfSteps h = absurd (h refl)

-- one that did has
spent : (c : Course) → c ≡ OutOfSteps → is_spent (course_of c) ≡ true
unfolding is_spent course_of
spent c e = ap (λ (d : Course). is_spent (course_of d)) e

pub returns-in-Some : goal.returns-in-Some
unfolding outcome_by
returns-in-Some c =
    came c.args.tally c.args.need true true (spent _ c.in-OutOfSteps.is) (ap (λ (o : Option Plan). is_some o) c.in-Some.is)

pub returns-in-None : goal.returns-in-None
unfolding outcome_by
returns-in-None c =
    came c.args.tally c.args.need true false (spent _ c.in-OutOfSteps.is) (ap (λ (o : Option Plan). is_some o) c.in-None.is)

pub returns-in-Some-best : goal.returns-in-Some-best
unfolding outcome_by
returns-in-Some-best c =
    came c.args.tally c.args.need false true (unspent _ c.in_default.not-OutOfSteps)
    (ap (λ (o : Option Plan). is_some o) c.in-Some-best.is)

pub returns-in-None-best : goal.returns-in-None-best
unfolding outcome_by
returns-in-None-best c =
    came c.args.tally c.args.need false false (unspent _ c.in_default.not-OutOfSteps)
    (ap (λ (o : Option Plan). is_some o) c.in-None-best.is)
