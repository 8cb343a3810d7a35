-- What groups reply, and what the two lent buffers hold afterwards.
use Rattle.refusal.specs.declared.Refusal.{Refusal}
use Rattle.std.specs.Prelude.{ℕ, Bool, ◌&&◌, List, [], ◌∷◌, leb, replicate, Option, Some, None, Result, Ok, Err}
use Rattle.refusal.specs.declared.Refusal.TheVariants.{GroupsOutside}
use Rattle.refusal.specs.Told.{Told, refusal_told}
use Rattle.theory.specs.Problem.{Problem, top}
use Rattle.theory.specs.Walk.{Best, none_met, met}
use Rattle.theory.specs.Groups as theory
use Rattle.request.specs.View.{View}
use Rattle.request.specs.Check.{then, must, check}
use Rattle.request.specs.Sharing.{problem_of}
use Rattle.lent.specs.Lent.{check_rooms, over, unless_refused}
use Rattle.meeting.specs.Plan.{starts_of}
use Rattle.placing.specs.FirstFit.{blockers_of}
use Rattle.groups.specs.declared.Grouped.{Grouped}

-- K demands can be cut into M groups: 1 to 8 of them, and no more than there are demands
unfoldable pub groupable : ℕ → ℕ → Bool
groupable K M = leb 1 M && (leb M 8 && leb M K)

-- all that is tested before anything is tried: the request, 10 for the starts and for the blockers, by the rooms of the two, then 24
unfoldable pub check_groups : View → ℕ → List ℕ → Result Unit Refusal
unfolding then must check check_rooms groupable
check_groups v M rooms =
    then (check v) (then (check_rooms v.demand_count rooms) (must (groupable v.demand_count M) (GroupsOutside M)))

-- the best of all orders of a request's groups, inside its band
unfoldable pub grouped : View → ℕ → Best
unfolding theory.grouped problem_of
grouped v M = theory.grouped (problem_of v) v.band.slots v.demand_count M

-- a group order in its eight places, 0 behind it
unfoldable pub order_told : List ℕ → List ℕ
unfolding over
order_told order = over order (replicate 8 0)

-- the best of all group orders as it is told: the end of its plan, with the order that gave it; or none
unfoldable pub best_reply : Problem → Best → Option Grouped
unfolding order_told
best_reply P none_met = None
best_reply P (met rows order) = Some (record { end = top P rows; order = order_told order })

-- a check, and where it passes the reply
unfoldable pub reply_after : Result Unit Refusal → Option Grouped → Result (Option Grouped) Refusal
reply_after (Ok _) best = Ok best
reply_after (Err why) best = Err why

-- the reply
unfoldable pub groups_reply : View → ℕ → List ℕ → Result (Option Grouped) Refusal
unfolding reply_after check_groups best_reply grouped
groups_reply v M rooms = reply_after (check_groups v M rooms) (best_reply (problem_of v) (grouped v M))

-- the starts after the best was found: by listing position those of its plan, the rest as it was; without a plan all as it was
unfoldable pub best_starts : View → Best → List ℕ → List ℕ
unfolding over starts_of
best_starts v none_met starts = starts
best_starts v (met rows order) starts = over (starts_of v.demand_count rows) starts

-- the blockers, alike
unfoldable pub best_blockers : View → Best → List ℕ → List ℕ
unfolding over blockers_of
best_blockers v none_met blockers = blockers
best_blockers v (met rows order) blockers = over (blockers_of (problem_of v) v.demand_count rows) blockers

-- the starts afterwards
unfoldable pub groups_starts : View → ℕ → List ℕ → List ℕ → List ℕ
unfolding unless_refused check_groups best_starts grouped
groups_starts v M rooms starts = unless_refused (check_groups v M rooms) starts (best_starts v (grouped v M) starts)

-- the blockers afterwards
unfoldable pub groups_blockers : View → ℕ → List ℕ → List ℕ → List ℕ
unfolding unless_refused check_groups best_blockers grouped
groups_blockers v M rooms blockers = unless_refused (check_groups v M rooms) blockers (best_blockers v (grouped v M) blockers)

-- what a reply says: 0, then 1 and the plan's end, or 2 and 0 where nothing was found, and the eight places of the order; or the number
-- of the fault and its place
unfoldable pub grouping_told : Result (Option Grouped) Refusal → Told ℕ
unfolding order_told
grouping_told (Ok (Some plan)) = (0, 1 ∷ plan.end ∷ plan.order)
grouping_told (Ok None) = (0, 2 ∷ 0 ∷ order_told [])
grouping_told (Err why) = refusal_told why
