use Rattle.std.specs.Prelude.{Some, Ok}
use Rattle.std.proofs.lemmas.Result.{err_from_is_err_and}
use Prim.Native.Nat.{ℕ}
use mathlib.Core.List.{List, [], ◌∷◌}
use mathlib.Core.Path.{sym, ap, ap₂, subst, ◌∙◌}
use native.Mathlib.Omega.{arith}
use lib.ListN.{length}
use lib.Seq.{length-take-le}
use Rattle.theory.specs.Groups.{members}
use Rattle.request.specs.View.{view}
use Rattle.request.proofs.Arrays.{whole}
use Rattle.placing.specs.FirstFit.{first_fit_starts, first_fit_blockers}
use Rattle.placing.proofs.FirstFitLaws.{order_starts, order_blockers}
use Rattle.groups.specs.MembersLaws.{arranged_filled}
use Rattle.groups.specs.AnswerLaws.{refused_reply, refused_starts, refused_blockers, nothing_reply, nothing_starts, nothing_blockers, found_reply, found_starts, found_blockers, best_is, all_members, members_fitted, asked, small_asked, many_asked, none_asked, order_found}
use Rattle.groups.specs.inner.Answer.{Asked, FoundOrder}
use Rattle.groups.specs.inner.Members.{Filled}
use Rattle.groups.proofs.groups.Goals.{In-Some}
use Rattle.groups.proofs.groups.Goals as goal

-- all tests have passed, and a best order was found
best_found : (c : In-Some) → Asked (view c.args.request) c.args.m (length c.args.starts.now) (length c.args.blockers.now)
    × FoundOrder (view c.args.request) c.args.m c.in-Some.best
best_found c =
    let q = c.args.request in
    let asks = asked q (whole q _ c.well_formed.0) c.args.m _ _ (sym c.check_groups.ensures ∙ c.in_ok-check_groups.was) in
    (asks, order_found asks c.compacted.result c.compacted.ensures c.in-Some.best (sym c.in-Some.is ∙ c.best_order.ensures))

pub returns-in_err-check_groups : goal.returns-in_err-check_groups
returns-in_err-check_groups c =
    let a = c.args in
    let v = view a.request in
    let rooms : List ℕ = length a.starts.now ∷ length a.blockers.now ∷ [] in
    let fails = sym c.check_groups.ensures ∙ c.in_err-check_groups.was in
    let handed_on = err_from_is_err_and c.from_residual.result c.from_residual.ensures.1 in
    record {
      reply = rw (handed_on.1, handed_on.2) (refused_reply v a.m rooms a.starts.now a.blockers.now _ fails);
      starts = refused_starts v a.m rooms a.starts.now a.blockers.now _ fails;
      blockers = refused_blockers v a.m rooms a.starts.now a.blockers.now _ fails;
    }

pub best_order-requires : goal.best_order-requires
best_order-requires c =
    let q = c.args.request in
    let asks = asked q (whole q _ c.well_formed.0) c.args.m _ _ (sym c.check_groups.ensures ∙ c.in_ok-check_groups.was) in
    let k = c.compacted.result in
    record {
      small = small_asked asks k c.compacted.ensures;
      le_m = (asks.some, asks.few, many_asked asks k c.compacted.ensures);
    }

pub returns-in_default : goal.returns-in_default
returns-in_default c =
    let a = c.args in
    let q = a.request in
    let v = view q in
    let rooms : List ℕ = length a.starts.now ∷ length a.blockers.now ∷ [] in
    let asks = asked q (whole q _ c.well_formed.0) c.args.m _ _ (sym c.check_groups.ensures ∙ c.in_ok-check_groups.was) in
    let none = none_asked asks c.compacted.result c.compacted.ensures (sym c.in_default.is ∙ c.best_order.ensures) in
    record {
      reply = nothing_reply v a.m rooms a.starts.now a.blockers.now asks.passes none;
      starts = nothing_starts v a.m rooms a.starts.now a.blockers.now asks.passes none;
      blockers = nothing_blockers v a.m rooms a.starts.now a.blockers.now asks.passes none;
    }

pub shared_ref_as_front-members_of : goal.shared_ref_as_front-members_of
shared_ref_as_front-members_of c = (best_found (goal.at.shared_ref_as_front-members_of c).In-Some).0.few

pub members_of-along-requires : goal.members_of-along-requires
unfolding view
members_of-along-requires c =
    let (asks, best) = best_found (goal.at.members_of-along-requires c).In-Some in
    let K = c.args.request.demand_count in
    record {
      sizes = (omega (arith, ap length best.front, best.long, asks.some), omega (arith, ap length best.front, best.long, asks.few), asks.sound.at_most_200_demands);
      filled = subst (Filled K) (sym best.front)
          (arranged_filled K c.args.m best.order asks.some (best_is (view c.args.request) c.args.m asks.some best.rows best.order best.found).listed);
    }

pub slice_bounds-along-end : goal.slice_bounds-along-end
unfolding view
slice_bounds-along-end c =
    let asks = (best_found (goal.at.slice_bounds-along-end c).In-Some).0 in
    omega (arith, c.members_of-along.ensures.0, asks.sound.at_most_200_demands)

pub slice_bounds-first_fit-end : goal.slice_bounds-first_fit-end
unfolding view
slice_bounds-first_fit-end c =
    let asks = (best_found (goal.at.slice_bounds-first_fit-end c).In-Some).0 in
    sym (length-take-le _ _ (omega (arith, c.members_of-along.ensures.0, asks.sound.at_most_200_demands)))

pub returns : goal.returns
unfolding view
returns c =
    let a = c.args in
    let v = view a.request in
    let K = v.demand_count in
    let rooms : List ℕ = length a.starts.now ∷ length a.blockers.now ∷ [] in
    let (asks, best) = best_found (goal.at.returns c).In-Some in
    let along = c.members_of-along.ensures.1 ∙ ap₂ (members K) (ap length best.front ∙ best.long) best.front in
    let all = all_members v a.m asks.some best.rows best.order best.found in
    let fits = members_fitted v a.m asks.some best.rows best.order best.found in
    record {
      reply = ap₂ (λ (e : ℕ) (o : List ℕ). Ok (Some (record { end = e; order = o }))) best.end_is best.order_is
          ∙ found_reply v a.m rooms a.starts.now a.blockers.now asks.passes best.rows best.order best.found;
      starts = c.first_fit.ensures.starts
          ∙ ap (λ (o : List ℕ). first_fit_starts v o rooms a.starts.now) along
          ∙ order_starts v asks.checked (members K a.m best.order) a.starts.now a.blockers.now all best.rows fits asks.starts_room asks.blockers_room
          ∙ found_starts v a.m rooms a.starts.now a.blockers.now asks.passes best.rows best.order best.found;
      blockers = c.first_fit.ensures.blockers
          ∙ ap (λ (o : List ℕ). first_fit_blockers v o rooms a.blockers.now) along
          ∙ order_blockers v asks.checked (members K a.m best.order) a.starts.now a.blockers.now all best.rows fits asks.starts_room asks.blockers_room
          ∙ found_blockers v a.m rooms a.starts.now a.blockers.now asks.passes best.rows best.order best.found;
    }
