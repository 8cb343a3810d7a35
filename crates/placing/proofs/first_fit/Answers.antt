use Rattle.std.specs.Prelude.{Ok, Err}
use Rattle.std.proofs.lemmas.Result.{err_from_is_err_and}
use Prim.Native.Nat.{ℕ, ◌≤◌}
use mathlib.Core.List.Memᴰ
use mathlib.Core.List.{List, [], ◌∷◌}
use mathlib.Core.Path.{◌≡◌, refl, sym, subst, ◌∙◌}
use lib.ListN.{length}
use Rattle.request.specs.View.{view}
use Rattle.request.specs.Sound.{SoundRequest}
use Rattle.request.proofs.SoundLaws.{check_sound, whole_counted}
use Rattle.request.specs.inner.Limits.{Limits}
use Rattle.request.proofs.LimitsLaws.{checked_limits}
use Rattle.request.proofs.Arrays.{whole}
use Rattle.request.specs.Whole.{Whole}
use Rattle.request.specs.declared.Request.{Request}
use Rattle.meeting.specs.declared.Compact.{Compact}
use Rattle.meeting.specs.Compact.{compact_of}
use Rattle.meeting.specs.CompactLaws.{small}
use Rattle.placing.specs.FirstFit.{check_first_fit, fitted, fitted_reply}
use Rattle.placing.specs.inner.Placement.{OrderAsked}
use Rattle.placing.proofs.PlacementLaws.{small_reply, small_kept}
use Rattle.placing.proofs.OrderLaws.{order_positions}
use Rattle.placing.proofs.FirstFitLaws.{tests_refuse, tests_keep_starts, tests_keep_blockers, fitted_answers, fitted_writes, fitted_names, end_placed, unplaced_keeps_starts, unplaced_keeps_blockers, starts_fitted, blockers_fitted}
use Rattle.placing.proofs.PromiseLaws.{request_sound, order_sound, order_once, room_enough}
use Rattle.placing.proofs.first_fit.Goals as goal

-- what is known of a request and an order that pass all tests
record Tested (r : Request) (order : List ℕ) (starts blockers : ℕ) : Type 0 where
  passed : check_first_fit (view r) order (starts ∷ blockers ∷ []) ≡ Ok tt
  limits : Limits (view r)
  sound : SoundRequest (view r)
  starts_room : (view r).demand_count ≤ starts
  blockers_room : (view r).demand_count ≤ blockers

tested : (r : Request) (order : List ℕ) (starts blockers : ℕ) → Whole r →
    check_first_fit (view r) order (starts ∷ blockers ∷ []) ≡ Ok tt → Tested r order starts blockers
tested r order starts blockers full passed =
    let rooms : List ℕ = starts ∷ blockers ∷ [] in
    let passes = request_sound (view r) order rooms passed in record {
      passed = passed;
      limits = checked_limits r full passes;
      sound = check_sound (view r) (whole_counted r full) passes;
      starts_room = room_enough (view r) order rooms passed starts (Memᴰ.head refl);
      blockers_room = room_enough (view r) order rooms passed blockers (Memᴰ.tail (Memᴰ.head refl));
    }

pub returns-in_err-check_first_fit : goal.returns-in_err-check_first_fit
unfolding view
returns-in_err-check_first_fit c =
    let v = view c.args.request in
    let order = c.args.order.now in
    let rooms : List ℕ = length c.args.starts.now ∷ length c.args.blockers.now ∷ [] in
    let why = c.in_err-check_first_fit.field-0.0 in
    let fails : check_first_fit v order rooms ≡ Err why = sym c.check_first_fit.ensures ∙ c.in_err-check_first_fit.was in
    let handed-on = err_from_is_err_and c.from_residual.result c.from_residual.ensures.1 in record {
      reply = rw (handed-on.1, handed-on.2) (tests_refuse v order rooms why fails);
      starts = tests_keep_starts v order rooms why fails c.args.starts.now;
      blockers = tests_keep_blockers v order rooms why fails c.args.blockers.now;
    }

pub place_all-requires : goal.place_all-requires
unfolding view compact_of
place_all-requires c =
    let known = tested c.args.request c.args.order.now _ _ (whole c.args.request _ c.well_formed.0) (sym c.check_first_fit.ensures ∙ c.in_ok-check_first_fit.was) in
    let v = view c.args.request in
    let order = c.args.order.now in
    subst (λ (small : Compact). OrderAsked small order) (sym c.compacted.ensures)
    (record {
      small = small v known.sound known.limits;
      positions = order_positions v.demand_count order (order_sound v order _ known.passed);
      once = order_once v order _ known.passed;
    })

pub returns-in_err-plan : goal.returns-in_err-plan
unfolding view
returns-in_err-plan c =
    let known = tested c.args.request c.args.order.now _ _ (whole c.args.request _ c.well_formed.0) (sym c.check_first_fit.ensures ∙ c.in_ok-check_first_fit.was) in
    let v = view c.args.request in
    let order = c.args.order.now in
    let why = c.in_err-plan.field-0.0 in
    let answer : Err why ≡ fitted_reply v (fitted v order)
    = c.in_err-plan.ensures.unplaced ∙ small_reply v known.sound known.limits _ c.compacted.ensures order in
    let handed-on = err_from_is_err_and c.from_residual-in_err-plan.result c.from_residual-in_err-plan.ensures.1 in record {
      reply = rw (handed-on.1, handed-on.2) (answer ∙ sym (fitted_answers v order _ known.passed));
      starts = unplaced_keeps_starts v (fitted v order) why c.args.starts.now answer ∙ sym (fitted_writes v order _ known.passed c.args.starts.now);
      blockers = unplaced_keeps_blockers v (fitted v order) why c.args.blockers.now answer ∙ sym (fitted_names v order _ known.passed c.args.blockers.now);
    }

pub shared_ref_as_front-write_front : goal.shared_ref_as_front-write_front
unfolding view
shared_ref_as_front-write_front c =
    (tested c.args.request c.args.order.now _ _ (whole c.args.request _ c.well_formed.0) (sym c.check_first_fit.ensures ∙ c.in_ok-check_first_fit.was)).limits.most_demands

pub returns : goal.returns
unfolding view
returns c =
    let known = tested c.args.request c.args.order.now _ _ (whole c.args.request _ c.well_formed.0) (sym c.check_first_fit.ensures ∙ c.in_ok-check_first_fit.was) in
    let v = view c.args.request in
    let order = c.args.order.now in
    let plan = c.in_ok-plan in
    let answer = plan.ensures.end ∙ small_reply v known.sound known.limits _ c.compacted.ensures order in
    let kept = small_kept v known.sound known.limits _ c.compacted.ensures order _ _ plan.ensures.kept in
    let (rows, all) = end_placed v (fitted v order) plan.plan.end answer in record {
      reply = answer ∙ sym (fitted_answers v order _ known.passed);
      starts = c.write_front.ensures
          ∙ starts_fitted v (fitted v order) rows _ _ known.limits.most_demands all kept c.args.starts.now known.starts_room
          ∙ sym (fitted_writes v order _ known.passed c.args.starts.now);
      blockers = c.write_front-2.ensures
          ∙ blockers_fitted v (fitted v order) rows _ _ known.limits.most_demands all kept c.args.blockers.now known.blockers_room
          ∙ sym (fitted_names v order _ known.passed c.args.blockers.now);
    }
