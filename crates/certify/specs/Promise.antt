-- What a certificate proves, in the planner's words.
use Rattle.std.specs.Prelude.{ℕ, ◌≤◌, ◌<◌, List, Result, Ok, Err, ◌≡◌}
use Rattle.refusal.specs.declared.Refusal.{Refusal}
use Rattle.request.specs.View.{View}
use Rattle.meeting.specs.Plan.{AllowedPlan, end_of_plan}
use Rattle.plan.specs.Acceptable.{Acceptable}
use Rattle.certify.specs.declared.Certified.{Certified}
use Rattle.certify.specs.declared.Certified.TheVariants.{Best, AtLeast}

-- no allowed plan whatsoever ends below an end
unfoldable pub NoneBelow : View → ℕ → Type 0
NoneBelow v low = (other : List ℕ) → AllowedPlan v other → low ≤ end_of_plan v other

-- the plan is allowed and ends at e
pub record PlanEnds (v : View) (starts : List ℕ) (e : ℕ) : Type 0 where
  pub acceptable : Acceptable v starts
  pub ends : end_of_plan v starts ≡ e

-- what is told: this is the best there is; or no plan ends below the first end, and this one ends above it, at the second
unfoldable pub Promised : View → List ℕ → Result Certified Refusal → Type 0
unfolding NoneBelow
Promised v starts (Ok (Best e)) = PlanEnds v starts e × NoneBelow v e
Promised v starts (Ok (AtLeast low e)) = PlanEnds v starts e × NoneBelow v low × (low < e)
Promised v starts (Err why) = Unit {0}
