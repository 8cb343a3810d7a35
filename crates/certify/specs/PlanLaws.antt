-- A plan that is accepted is one of a sound request.
use Rattle.std.specs.Prelude.{ℕ, List, ◌≡◌, Ok}
use Rattle.request.specs.View.{View}
use Rattle.request.specs.Check.{then, check}
use Rattle.request.proofs.CheckLaws.{first_sound}
use Rattle.meeting.specs.Plan.{end_of_plan}
use Rattle.plan.specs.CheckStarts.{check_count, check_places, check_starts, starts_reply}
use Rattle.plan.specs.AcceptableLaws.{reply_passed}

pub accepted_sound : (v : View) (starts : List ℕ) (end : ℕ) → starts_reply v starts ≡ Ok end → check v ≡ Ok tt
unfolding starts_reply check_starts
accepted_sound v starts end is =
    first_sound (check v) (then (check_count v.demand_count starts) (check_places v starts)) (reply_passed (check_starts v starts) (end_of_plan v starts) end is).0
