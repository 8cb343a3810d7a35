-- A plan is accepted exactly when it is allowed; one that ends at the bound is then the best there is.
use Rattle.std.specs.Prelude.{ℕ, ◌≤◌, List, [], ◌∷◌, ◌≡◌, refl, length, get_or, Result, Ok, Err}
use mathlib.Core.List.Memᴰ
use Rattle.std.proofs.Math.Path.{sym, ap}
use Rattle.std.proofs.Common.{subst, ◌∙◌, arith}
use Rattle.refusal.specs.declared.Refusal.{Refusal}
use Rattle.refusal.specs.Told.{Told}
use Rattle.refusal.specs.ToldLaws.{refusal_told_whole, refusal_told_fault}
use Rattle.theory.specs.Problem.{Allowed}
use Rattle.theory.specs.Orders.{listing}
use Rattle.request.specs.declared.Request.{Request}
use Rattle.request.specs.View.{View, view}
use Rattle.request.specs.Sound.{SoundRequest}
use Rattle.request.specs.Whole.{Whole, Counted}
use Rattle.request.proofs.SoundLaws.{check_sound, sound_check, whole_counted}
use Rattle.request.proofs.LimitsLaws.{sound_limits}
use Rattle.request.specs.Sharing.{problem_of}
use Rattle.meeting.specs.Bound.{bound_of}
use Rattle.meeting.specs.Plan.{start_at, AllowedPlan, end_of_plan}
use Rattle.meeting.specs.PlanLaws.{slots_to_ends, ends_to_slots}
use Rattle.meeting.specs.BoundLaws.{plan_above_bound}
use Rattle.placing.specs.FirstFit.{check_first_fit, fitted, fitted_reply, first_fit_reply, first_fit_starts, placed_told}
use Rattle.placing.proofs.FirstFitLaws.{placed_told_whole}
use Rattle.placing.proofs.PromiseLaws.{end_given, request_sound, room_enough, first_fit_promise}
use Rattle.plan.specs.CheckStarts.{check_starts, reply_with, starts_reply, accepted_told}
use Rattle.plan.specs.CheckStartsLaws.{places_allowed, allowed_places, places_decide, each_passed}
use Rattle.plan.specs.Acceptable.{Acceptable}

-- an answer that accepts comes from a check that passes
pub reply_passed : (x : Result Unit Refusal) (own end : ℕ) → reply_with x own ≡ Ok end → (x ≡ Ok tt) × (own ≡ end)
unfolding reply_with
reply_passed (Ok _) own end h = (refl, cc)
reply_passed (Err why) own end h = absurd (let z : ◌≡◌ {A = ℕ} 0 1 = cc in omega arith)

-- an answer that refuses comes from a check that refuses for the same
pub reply_refused : (x : Result Unit Refusal) (own : ℕ) (why : Refusal) → reply_with x own ≡ Err why → x ≡ Err why
unfolding reply_with
reply_refused (Ok _) own why h = absurd (let z : ◌≡◌ {A = ℕ} 0 1 = cc in omega arith)
reply_refused (Err own-why) own why h = cc

module _ (v : View) (starts : List ℕ) where
  -- an accepted plan has passed the check
  pub starts_passed : (end : ℕ) → starts_reply v starts ≡ Ok end → check_starts v starts ≡ Ok tt
  unfolding starts_reply
  starts_passed end h = (reply_passed (check_starts v starts) (end_of_plan v starts) end h).0

  -- a refused one is refused by the check for the same
  pub starts_refused : (why : Refusal) → starts_reply v starts ≡ Err why → check_starts v starts ≡ Err why
  unfolding starts_reply
  starts_refused why h = reply_refused (check_starts v starts) (end_of_plan v starts) why h

-- two answers that are told alike are the same
pub accepted_told_whole : (r r' : Result ℕ Refusal) → accepted_told r ≡ accepted_told r' → r ≡ r'
unfolding accepted_told
accepted_told_whole (Ok e) (Ok e') h = ap (λ (t : Told ℕ). Ok (get_or t.1 0 0)) h
accepted_told_whole (Ok e) (Err why) h = absurd (refusal_told_fault why _ _ (sym h))
accepted_told_whole (Err why) (Ok e) h = absurd (refusal_told_fault why _ _ h)
accepted_told_whole (Err why) (Err why') h = ap Err (refusal_told_whole why why' h)

module _ (v : View) (counted : Counted v) (starts : List ℕ) where
  -- an accepted plan is allowed, and the answer is its end
  pub accepted_allowed : (end : ℕ) → starts_reply v starts ≡ Ok end → Acceptable v starts × (end ≡ end_of_plan v starts)
  unfolding starts_reply
  accepted_allowed end h =
      let passed = reply_passed (check_starts v starts) (end_of_plan v starts) end h in
      let each = each_passed v starts passed.0 in
      let sound = check_sound v counted each.0 in (
        record {
          request_sound = sound;
          enough_starts = each.1;
          plan_allowed = ends_to_slots v starts (places_allowed v starts (sound_limits v counted sound).demands_there each.3);
        },
        sym passed.1,
      )

  -- a plan allowed by its ends and starts is accepted with its end
  pub allowed_ends_accepted : SoundRequest v → v.demand_count ≤ length starts →
      Allowed (problem_of v) v.band.slots [] (listing v.demand_count) (start_at starts) →
      starts_reply v starts ≡ Ok (end_of_plan v starts)
  unfolding starts_reply reply_with
  allowed_ends_accepted sound enough allowed =
      ap (λ (x : Result Unit Refusal). reply_with x (end_of_plan v starts))
      (places_decide v starts (sound_check v counted sound) enough ∙ allowed_places v starts (sound_limits v counted sound).demands_there allowed)

  -- an allowed plan is accepted with its end
  pub allowed_accepted : Acceptable v starts → starts_reply v starts ≡ Ok (end_of_plan v starts)
  allowed_accepted good =
      allowed_ends_accepted good.request_sound good.enough_starts
      (slots_to_ends v starts good.request_sound (sound_limits v counted good.request_sound).routes_there good.plan_allowed)

  -- the certificate: no allowed plan whatsoever ends below an accepted plan whose end is the bound
  pub bound_certifies : starts_reply v starts ≡ Ok (bound_of v) →
      (others : List ℕ) → AllowedPlan v others → end_of_plan v starts ≤ end_of_plan v others
  bound_certifies h others allowed =
      let good = accepted_allowed (bound_of v) h in
      let sound = good.0.request_sound in
      subst (λ (e : ℕ). e ≤ end_of_plan v others) good.1
      (plan_above_bound v sound (sound_limits v counted sound).demands_there (sound_limits v counted sound).routes_there others allowed)

module _ (r : Request) (whole : Whole r) (starts : List ℕ) where
  -- for every request and every list of starts: accepted exactly when allowed, with the plan's end
  pub accepted_exactly :
      ((end : ℕ) → accepted_told (starts_reply (view r) starts) ≡ (0, end ∷ []) → Acceptable (view r) starts × (end ≡ end_of_plan (view r) starts))
      × (Acceptable (view r) starts → accepted_told (starts_reply (view r) starts) ≡ (0, end_of_plan (view r) starts ∷ []))
  unfolding accepted_told
  accepted_exactly = (
    λ end h. accepted_allowed (view r) (whole_counted r whole) starts end (accepted_told_whole (starts_reply (view r) starts) (Ok end) h),
    λ good. ap accepted_told (allowed_accepted (view r) (whole_counted r whole) starts good),
  )

  -- for every request: an accepted plan whose end is the bound is the best there is
  pub best_at_the_bound : accepted_told (starts_reply (view r) starts) ≡ (0, bound_of (view r) ∷ []) →
      (others : List ℕ) → AllowedPlan (view r) others → end_of_plan (view r) starts ≤ end_of_plan (view r) others
  unfolding accepted_told
  best_at_the_bound h =
      bound_certifies (view r) (whole_counted r whole) starts
      (accepted_told_whole (starts_reply (view r) starts) (Ok (bound_of (view r))) h)

-- first fit's plan is accepted, with its end, whatever the two buffers held
pub first_fit_accepted : (r : Request) → Whole r → (order starts blockers : List ℕ) (end : ℕ) →
    placed_told (first_fit_reply (view r) order (length starts ∷ length blockers ∷ [])) ≡ (0, end ∷ []) →
    accepted_told (starts_reply (view r) (first_fit_starts (view r) order (length starts ∷ length blockers ∷ []) starts)) ≡ (0, end ∷ [])
unfolding first_fit_reply placed_told accepted_told
first_fit_accepted r whole order starts blockers end h =
    let v : View = view r in
    let rooms : List ℕ = length starts ∷ length blockers ∷ [] in
    let tested =
    (end_given (check_first_fit v order rooms) (fitted_reply v (fitted v order)) end
    (placed_told_whole (first_fit_reply v order rooms) (Ok end) h)).0 in
    let plan = first_fit_promise r whole order starts blockers end h in
    ap accepted_told
    (allowed_accepted v (whole_counted r whole) (first_fit_starts v order rooms starts)
    (record {
      request_sound = check_sound v (whole_counted r whole) (request_sound v order rooms tested);
      enough_starts = omega (arith, plan.starts_written.as_long, room_enough v order rooms tested (length starts) (Memᴰ.head refl));
      plan_allowed = plan.allowed;
    })
    ∙ ap Ok (sym plan.ends))

-- two results that meet the contract of `check_starts` are equal
pub same_check : (v : View) (starts : List ℕ) (a a' : Result ℕ Refusal) → a ≡ starts_reply v starts → a' ≡ starts_reply v starts → a ≡ a'
same_check v starts a a' h k = h ∙ sym k
