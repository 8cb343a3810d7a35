use Rattle.std.specs.Prelude.{Option, is_some, Result, Ok, Err}
use Rattle.std.proofs.Common.{rules}
use Rattle.std.proofs.lemmas.Result.{err_from_is_err_and}
use Prim.Native.Nat.{ℕ, ◌≤◌}
use mathlib.Core.Bool.{true, false}
use mathlib.Core.List.Memᴰ
use mathlib.Core.List.{List, [], ◌∷◌}
use mathlib.Core.Path.{◌≡◌, refl, sym, ap, subst, ◌∙◌}
use native.Mathlib.Omega.{arith}
use lib.ListN.{length, take, replicate}
use lib.Seq.{length-take-le}
use Rattle.refusal.specs.declared.Refusal.TheVariants.{TooManyToSearch}
use Rattle.lent.specs.LentLaws.{all_over, rooms_held}
use Rattle.meeting.specs.declared.Compact.{Compact}
use Rattle.meeting.specs.Bound.{bound_of}
use Rattle.meeting.specs.Reply.{bound_reply}
use Rattle.refusal.specs.declared.Refusal.{Refusal}
use Rattle.meeting.specs.Compact.{compact_of}
use Rattle.meeting.specs.CompactLaws.{small}
use Rattle.meeting.specs.inner.Small.{Small}
use Rattle.placing.specs.FirstFit.{first_fit_blockers}
use Rattle.placing.proofs.FirstFitLaws.{order_blockers}
use Rattle.request.specs.declared.Request.{Request}
use Rattle.request.specs.Check.{check}
use Rattle.request.specs.Sound.{SoundRequest}
use Rattle.request.specs.View.{View, view}
use Rattle.request.specs.Whole.{Whole}
use Rattle.request.specs.inner.Limits.{Limits}
use Rattle.request.proofs.Arrays.{whole}
use Rattle.request.proofs.LimitsLaws.{checked_limits}
use Rattle.request.proofs.SoundLaws.{check_sound, whole_counted}
use Rattle.search.specs.declared.call.Found.{Found}
use Rattle.search.specs.declared.tally.Plan.{Plan}
use Rattle.search.specs.inner.Found.{searched_in, FoundFor}
use Rattle.search.specs.inner.Told.{is_met}
use Rattle.search.specs.Demand3Laws.{best_fitted}
use Rattle.search.specs.FoundLaws.{found_asked, starts_taken, order_taken}
use Rattle.search.specs.Reply.{Buffers, buffers_of, rooms_of, check_search, searched}
use Rattle.search.specs.ReplyLaws.{tested_request, bound_known, refusal_known, sizes_many, sizes_few, tested_sizes, refused_reply, refused_buffers, answered_reply, answered_buffers, plan_kept, no_plan_kept}
use Rattle.search.proofs.call.search.Goals as goal

-- a bound in reply: the request passes its tests, so it has what the laws ask of it, and that is its bound
known : (q : Request) → Whole q → (need : ℕ) (reply : Result ℕ Refusal) → reply ≡ bound_reply (view q) → reply ≡ Ok need →
    (check (view q) ≡ Ok tt) × (need ≡ bound_of (view q)) × (SoundRequest (view q) × Limits (view q))
known q arrays need reply is ok =
    let (passes, need_is) = bound_known (view q) need (sym ok ∙ is) in
    (passes, need_is, (check_sound (view q) (whole_counted q arrays) passes, checked_limits q arrays passes))

-- what is found of it made small is found of it
found_here : (v : View) → SoundRequest v × Limits v → (compact : Compact) (need limit : ℕ) (found : Found) → compact ≡ compact_of v →
    need ≡ bound_of v → FoundFor compact.count (searched_in compact need limit) found → FoundFor v.demand_count (searched v limit) found
found_here v tests compact need limit found small_is need_is so =
    found_asked v tests.0 tests.1 limit found
    (subst (λ (k : Compact). FoundFor k.count (searched_in k (bound_of v) limit) found) small_is
    (subst (λ (n : ℕ). FoundFor compact.count (searched_in compact n limit) found) need_is so))

pub returns-in_err-need : goal.returns-in_err-need
returns-in_err-need c =
    let v = view c.args.request in
    let limit = c.args.limit in
    let lent = buffers_of c.args.starts.now c.args.order.now c.args.blockers.now in
    let why = c.in_err-need.field-0.0 in
    let tested : check_search v (rooms_of lent) ≡ Err why =
    tested_request v (rooms_of lent) why (refusal_known v why (sym (c.in_err-need.was) ∙ c.bound.ensures)) in
    let stays = refused_buffers v limit lent why tested in
    let handed-on = err_from_is_err_and c.from_residual.result c.from_residual.ensures.1 in
    record {
      answer = rw (handed-on.1, handed-on.2) (refused_reply v limit (rooms_of lent) why tested);
      starts = ap (λ (b : Buffers). b.starts) stays;
      order = ap (λ (b : Buffers). b.order) stays;
      blockers = ap (λ (b : Buffers). b.blockers) stays;
    }

pub returns-then-count-gt20 : goal.returns-then-count-gt20
unfolding view
returns-then-count-gt20 c =
    let q = c.args.request in
    let sound = known q (whole q _ c.well_formed.0) _ _ c.bound.ensures c.in_ok-need.was in
    let v = view c.args.request in
    let limit = c.args.limit in
    let lent = buffers_of c.args.starts.now c.args.order.now c.args.blockers.now in
    let why = TooManyToSearch v.demand_count in
    let many : check_search v (rooms_of lent) ≡ Err why =
    tested_sizes v (rooms_of lent) sound.0 ∙ sizes_many v.demand_count (rooms_of lent) c.if-count-gt20.true in
    let stays = refused_buffers v limit lent why many in
    record {
      answer = refused_reply v limit (rooms_of lent) why many;
      starts = ap (λ (b : Buffers). b.starts) stays;
      order = ap (λ (b : Buffers). b.order) stays;
      blockers = ap (λ (b : Buffers). b.blockers) stays;
    }

pub returns-in_err-check_rooms : goal.returns-in_err-check_rooms
unfolding view rooms_of
returns-in_err-check_rooms c =
    let q = c.args.request in
    let sound = known q (whole q _ c.well_formed.0) _ _ c.bound.ensures c.in_ok-need.was in
    let v = view c.args.request in
    let limit = c.args.limit in
    let lent = buffers_of c.args.starts.now c.args.order.now c.args.blockers.now in
    let why = c.in_err-check_rooms.field-0.0 in
    let short : check_search v (rooms_of lent) ≡ Err why =
    tested_sizes v (rooms_of lent) sound.0
    ∙ sizes_few v.demand_count (rooms_of lent) c.if-count-gt20.false
    ∙ sym c.check_rooms.ensures
    ∙ c.in_err-check_rooms.was in
    let stays = refused_buffers v limit lent why short in
    let handed-on = err_from_is_err_and c.from_residual-in_err-check_rooms.result c.from_residual-in_err-check_rooms.ensures.1 in
    record {
      answer = rw (handed-on.1, handed-on.2) (refused_reply v limit (rooms_of lent) why short);
      starts = ap (λ (b : Buffers). b.starts) stays;
      order = ap (λ (b : Buffers). b.order) stays;
      blockers = ap (λ (b : Buffers). b.blockers) stays;
    }

pub find-found-requires : goal.find-found-requires
unfolding view compact_of
find-found-requires c =
    let q = c.args.request in
    let sound = known q (whole q _ c.well_formed.0) _ _ c.bound.ensures c.in_ok-need.was in
    let tests = sound.2 in
    record {
      small = subst Small (sym c.compacted.ensures) (small (view q) tests.0 tests.1);
      count_bound = subst (λ (k : Compact). k.count ≤ 20) (sym c.compacted.ensures) c.if-count-gt20.false;
    }

pub returns-in_default : goal.returns-in_default
unfolding view rooms_of
returns-in_default c =
    let q = c.args.request in
    let v = view q in
    let limit = c.args.limit in
    let sound = known q (whole q _ c.well_formed.0) _ _ c.bound.ensures c.in_ok-need.was in
    let tests = sound.2 in
    let found =
    found_here v tests c.compacted.result _ limit c.find-found.result c.compacted.ensures sound.1 c.find-found.ensures in
    let lent = buffers_of c.args.starts.now c.args.order.now c.args.blockers.now in
    let tested : check_search v (rooms_of lent) ≡ Ok tt =
    tested_sizes v (rooms_of lent) sound.0
    ∙ sizes_few v.demand_count (rooms_of lent) c.if-count-gt20.false
    ∙ sym c.check_rooms.ensures
    ∙ c.in_ok-check_rooms.was in
    let none : is_met (searched v limit).best ≡ false = sym found.plan_is ∙ ap (λ (p : Option Plan). is_some p) c.in_default.is in
    let stays = no_plan_kept v (searched v limit).best lent none ∙ answered_buffers v limit lent tested in
    record {
      answer = ap Ok found.answer_is ∙ answered_reply v limit (rooms_of lent) tested;
      starts = ap (λ (b : Buffers). b.starts) stays;
      order = ap (λ (b : Buffers). b.order) stays;
      blockers = ap (λ (b : Buffers). b.blockers) stays;
    }

pub returns : goal.returns
unfolding view rooms_of
returns c =
    let q = c.args.request in
    let v = view q in
    let K = v.demand_count in
    let limit = c.args.limit in
    let sound = known q (whole q _ c.well_formed.0) _ _ c.bound.ensures c.in_ok-need.was in
    let tests = sound.2 in
    let found =
    found_here v tests c.compacted.result _ limit c.find-found.result c.compacted.ensures sound.1 c.find-found.ensures in
    let lent = buffers_of c.args.starts.now c.args.order.now c.args.blockers.now in
    let few : K ≤ 20 = c.if-count-gt20.false in
    let rooms : (K ≤ length c.args.starts.now) × (K ≤ length c.args.order.now) × (K ≤ length c.args.blockers.now) =
    let held = rooms_held K (rooms_of lent) (sym c.check_rooms.ensures ∙ c.in_ok-check_rooms.was) in (
      held (length c.args.starts.now) (Memᴰ.head refl),
      held (length c.args.order.now) (Memᴰ.tail (Memᴰ.head refl)),
      held (length c.args.blockers.now) (Memᴰ.tail (Memᴰ.tail (Memᴰ.head refl))),
    ) in
    let tested : check_search v (rooms_of lent) ≡ Ok tt =
    tested_sizes v (rooms_of lent) sound.0
    ∙ sizes_few v.demand_count (rooms_of lent) few
    ∙ sym c.check_rooms.ensures
    ∙ c.in_ok-check_rooms.was in
    let best = (searched v limit).best in
    let plan = c.in-Some.plan in
    let again : List ℕ = replicate 20 0 in
    let some : is_met best ≡ true = sym found.plan_is ∙ ap (λ (p : Option Plan). is_some p) c.in-Some.is in
    let starts_long : length c.in-Some.plan.starts ≡ 20 = search rules in
    let order_long : length c.in-Some.plan.order ≡ 20 = search rules in
    let starts_front : length (take K plan.starts) ≡ K = length-take-le K plan.starts (omega arith) in
    let order_front : length (take K plan.order) ≡ K = length-take-le K plan.order (omega arith) in
    let kept =
    plan_kept v best lent (take K plan.starts) (take K plan.order) _ some
    (λ rows along is.
    let fits = best_fitted v tests.0 tests.1.demands_there tests.1.routes_there limit rows along is in
    let order_is = order_taken K plan.order (omega arith) ∙ found.order_is plan rows along c.in-Some.is is in (
      starts_taken K rows plan.starts (omega arith) (found.starts_are plan rows along c.in-Some.is is),
      order_is,
      c.first_fit.ensures.blockers
          ∙ ap (λ (o : List ℕ). first_fit_blockers v o (length again ∷ length c.args.blockers.now ∷ []) c.args.blockers.now) order_is
          ∙ order_blockers v sound.0 along again c.args.blockers.now fits.0 rows fits.1 few rooms.2,
    ))
    ∙ answered_buffers v limit lent tested in
    record {
      answer = ap Ok found.answer_is ∙ answered_reply v limit (rooms_of lent) tested;
      starts = c.write_front.ensures
          ∙ all_over (take K plan.starts) c.args.starts.now (omega (arith, starts_front, rooms.0))
          ∙ ap (λ (b : Buffers). b.starts) kept;
      order = c.write_front-2.ensures
          ∙ all_over (take K plan.order) c.args.order.now (omega (arith, order_front, rooms.1))
          ∙ ap (λ (b : Buffers). b.order) kept;
      blockers = ap (λ (b : Buffers). b.blockers) kept;
    }
