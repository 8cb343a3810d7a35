-- First fit suffices for requests: some order is as good as any plan.
use Rattle.refusal.specs.declared.Refusal.{Refusal}
use Rattle.std.specs.Prelude.{ℕ, ◌≤◌, List, [], ◌∷◌, ◌≡◌, length, Result, Ok}
use Rattle.std.proofs.Common.{sym, ap, subst, ◌∙◌, arith}
use Rattle.theory.specs.Problem.{Problem, Fitted, fill, top}
use Rattle.theory.specs.Orders.{listing}
use Rattle.theory.proofs.ListingLaws.{listing_below, listing_mem, listing_no_repeats}
use Rattle.theory.specs.inner.AsLow.{AsLow}
use Rattle.theory.proofs.ByStartLaws.{by_start}
use Rattle.theory.proofs.SufficesLaws.{first_fit_suffices}
use Rattle.request.specs.declared.Request.{Request}
use Rattle.request.specs.View.{View, view}
use Rattle.request.specs.Check.{check}
use Rattle.request.specs.Sound.{SoundRequest}
use Rattle.request.specs.Whole.{Whole}
use Rattle.request.proofs.SoundLaws.{check_sound, whole_counted}
use Rattle.request.proofs.LimitsLaws.{checked_limits}
use Rattle.request.specs.Sharing.{problem_of}
use Rattle.meeting.specs.Plan.{start_at, AllowedPlan}
use Rattle.meeting.specs.PlanLaws.{slots_to_ends}
use Rattle.meeting.specs.PlanEndLaws.{plan_end_is}
use Rattle.placing.specs.FirstFit.{check_first_fit, fitted, fitted_reply, placed_after, first_fit_reply, placed_told}
use Rattle.placing.proofs.FirstFitLaws.{all_pass}
use Rattle.placing.proofs.PromiseLaws.{start_is}
use Rattle.placing.specs.Suffices.{OrderByStart, end_in, AsLowAs}

-- a sound request's first fit in an order by a plan's starts, with room in both buffers, does as well as the plan
pub suffices_promise : (q : Request) → Whole q → check (view q) ≡ Ok tt → (plan : List ℕ) → AllowedPlan (view q) plan →
    (order : List ℕ) → OrderByStart (view q) plan order → (starts blockers : List ℕ) → (view q).demand_count ≤ length starts →
    (view q).demand_count ≤ length blockers → AsLowAs (view q) plan order (length starts ∷ length blockers ∷ []) starts
unfolding first_fit_reply fitted fitted_reply placed_after placed_told end_in
suffices_promise q whole passes plan allowed order by starts blockers room blockers-room =
    record {
      end = top P (fill P [] order);
      not_refused =
          ap (λ (c : Result Unit Refusal). placed_told (placed_after c (fitted_reply v (fitted v order)))) tested
          ∙ ap (λ (out : Fitted). placed_told (fitted_reply v out)) low.not_refused;
      none_higher =
          λ i h.
          let same = start_is v order rooms tested starts room (fill P [] order) low.not_refused i h in
          let no-later = low.none_later i (listing_mem v.demand_count i h) in
          omega (arith, same, no-later);
      end_no_higher = subst (λ (e : ℕ). top P (fill P [] order) ≤ e) (sym (plan_end_is v plan (checked_limits q whole passes).demands_there)) low.top_no_higher;
    }
  where
    v : View
    v = view q

    P : Problem
    P = problem_of v

    sound : SoundRequest v
    sound = check_sound v (whole_counted q whole) passes

    rooms : List ℕ
    rooms = length starts ∷ length blockers ∷ []

    tested : check_first_fit v order rooms ≡ Ok tt
    tested = all_pass v passes order by.an_order (length starts) (length blockers) room blockers-room

    low : AsLow P v.band.slots [] (listing v.demand_count) (start_at plan) order
    low =
        first_fit_suffices P v.band.slots [] (listing v.demand_count) (start_at plan) order (listing_no_repeats v.demand_count)
        (λ i m. (sound.demands_sound i (listing_below v.demand_count i m)).some_width)
        (slots_to_ends v plan sound (checked_limits q whole passes).routes_there allowed) by.an_order by.by_start

-- every plan has such an order
pub order_by_start : (v : View) (plan : List ℕ) → (order : List ℕ) × OrderByStart v plan order
order_by_start v plan =
    let (order, listed, by) = by_start (start_at plan) (listing v.demand_count) in
    (order, record { an_order = listed; by_start = by })
