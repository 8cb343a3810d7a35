-- What a plan must be to be accepted.
use Rattle.std.specs.Prelude.{ℕ, ◌≤◌, List, length}
use Rattle.request.specs.View.{View}
use Rattle.request.specs.Sound.{SoundRequest}
use Rattle.meeting.specs.Plan.{AllowedPlan}

-- a sound request, a start for each demand, and a plan that is allowed by the slots that it holds
pub record Acceptable (v : View) (starts : List ℕ) : Type 0 where
  pub request_sound : SoundRequest v
  pub enough_starts : v.demand_count ≤ length starts
  pub plan_allowed : AllowedPlan v starts
