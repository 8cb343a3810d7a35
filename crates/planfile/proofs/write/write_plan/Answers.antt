use Rattle.std.proofs.Common.{ℕ, ◌≡◌, ◌*◌, ◌≤◌, length, take, sym, ap, ◌∙◌, arith, rules, length-take-le}
use Rattle.std.specs.Prelude.{Ok}
use Rattle.std.proofs.lemmas.List.{length-map}
use Rattle.request.specs.View.{view, view_demand}
use Rattle.request.proofs.LimitsLaws.{checked_limits}
use Rattle.request.proofs.Arrays.{whole}
use Rattle.lent.specs.Lent.{check_room}
use Rattle.lent.specs.LentLaws.{stored_front, room_held}
use Rattle.plan.specs.AcceptableLaws.{starts_passed, starts_refused}
use Rattle.plan.specs.CheckStartsLaws.{each_passed}
use Rattle.planfile.specs.PlanFile.{encode_plan}
use Rattle.planfile.proofs.PlanFileLaws.{rows_length, plan_unwritten, plan_short, plan_wrote, out_unwritten, out_wrote}
use Rattle.planfile.proofs.write.write_plan.Goals as goal

pub returns-in_err-check_starts : goal.returns-in_err-check_starts
returns-in_err-check_starts c =
    let v = view c.args.request in
    let starts = c.args.starts.now in
    let out = c.args.out.now in
    let refused = plan_unwritten v starts out _ (starts_refused v starts _ (sym c.check_starts.ensures ∙ c.in_err-check_starts.was)) in
    record { value = search (rules, refused); out_after = sym (out_unwritten v starts out _ refused) }

pub shared_ref_as_front-demands : goal.shared_ref_as_front-demands
unfolding view
shared_ref_as_front-demands c =
    let r = c.args.request in
    let passed = each_passed (view r) c.args.starts.now (starts_passed (view r) c.args.starts.now c.in_ok-check_starts.field-0 (sym c.check_starts.ensures ∙ c.in_ok-check_starts.was)) in
    (checked_limits r (whole r _ c.well_formed.0) passed.0).most_demands

pub returns-in_err-check_room : goal.returns-in_err-check_room
unfolding view encode_plan
returns-in_err-check_room c =
    let v = view c.args.request in
    let starts = c.args.starts.now in
    let out = c.args.out.now in
    let passed = starts_passed v starts c.in_ok-check_starts.field-0 (sym c.check_starts.ensures ∙ c.in_ok-check_starts.was) in
    let long : length (encode_plan v starts) ≡ 7 * length (take c.args.request.demand_count c.args.request.demands)
    = rows_length starts 0 v.demands ∙ omega (arith, length-map (take c.args.request.demand_count c.args.request.demands) view_demand) in
    let refused = plan_short v starts out _ passed (ap (λ (n : ℕ). check_room n (length out)) long ∙ (sym c.check_room.ensures ∙ c.in_err-check_room.was)) in
    record { value = search (rules, refused); out_after = sym (out_unwritten v starts out _ refused) }

pub write_rows-requires : goal.write_rows-requires
unfolding view
write_rows-requires c =
    let r = c.args.request in
    let passed = each_passed (view r) c.args.starts.now (starts_passed (view r) c.args.starts.now c.in_ok-check_starts.field-0 (sym c.check_starts.ensures ∙ c.in_ok-check_starts.was)) in
    let all = whole r _ c.well_formed.0 in
    let limits = checked_limits r all passed.0 in
    let counted = length-take-le r.demand_count r.demands (omega (arith, all.all_demands, limits.most_demands)) in
    record { demands_bound = omega (arith, limits.most_demands); starts_in_bounds = omega (arith, passed.1); rows_in_bounds = room_held _ _ (sym c.check_room.ensures ∙ c.in_ok-check_room.was) }

pub returns : goal.returns
unfolding view encode_plan
returns c =
    let v = view c.args.request in
    let starts = c.args.starts.now in
    let out = c.args.out.now in
    let passed = starts_passed v starts c.in_ok-check_starts.field-0 (sym c.check_starts.ensures ∙ c.in_ok-check_starts.was) in
    let long : length (encode_plan v starts) ≡ 7 * length (take c.args.request.demand_count c.args.request.demands)
    = rows_length starts 0 v.demands ∙ omega (arith, length-map (take c.args.request.demand_count c.args.request.demands) view_demand) in
    let enough = room_held _ (length out) (sym c.check_room.ensures ∙ c.in_ok-check_room.was) in
    let room : length (encode_plan v starts) ≤ length out = omega (arith, enough) in
    let wrote = plan_wrote v starts out passed room in
    record { value = ap Ok (sym long) ∙ sym wrote; out_after = c.write_rows.ensures ∙ (stored_front out (encode_plan v starts) room ∙ sym (out_wrote v starts out _ wrote)) }
