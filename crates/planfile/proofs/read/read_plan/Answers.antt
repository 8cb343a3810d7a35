use Rattle.std.proofs.Common.{ℕ, List, [], length, take, sym, ap, ◌∙◌, arith, rules, length-take-le}
use Rattle.refusal.specs.declared.Refusal.TheVariants.{FileTooLong}
use Rattle.request.specs.View.{view}
use Rattle.request.proofs.LimitsLaws.{checked_limits}
use Rattle.request.proofs.Arrays.{whole}
use Rattle.lent.specs.Lent.{over}
use Rattle.meeting.specs.Plan.{starts_of}
use Rattle.plan.specs.CheckStarts.{starts_reply}
use Rattle.planfile.specs.PlanReading.{read_rows, given_to, read_plan_file}
use Rattle.planfile.proofs.PlanReadingLaws.{plan_request_refused, plan_too_long, plan_row_refused}
use Rattle.planfile.proofs.PlanRowsLaws.{packed_refused, packed_whole, all_read, refused_result, read_refused_keeps, missing_answer, rows_unsound, rows_no_room, rows_answered, rows_reply_lem, rows_kept}
use Rattle.planfile.proofs.read.read_plan.Goals as goal

pub returns-in_err-check_request : goal.returns-in_err-check_request
returns-in_err-check_request c =
    let v = view c.args.request in
    let s = c.args.file.now in
    let out = c.args.starts.now in
    let told = refused_result v (read_plan_file v s (length out)) out _ (plan_request_refused v s (length out) _ (sym c.check_request.ensures ∙ c.in_err-check_request.was)) in
    record { value = search (rules, told.0); starts_after = told.1 }

pub returns-then-file-gt-MOST_BYTES : goal.returns-then-file-gt-MOST_BYTES
returns-then-file-gt-MOST_BYTES c =
    let sound = sym c.check_request.ensures ∙ c.in_ok-check_request.was in
    let v = view c.args.request in
    let s = c.args.file.now in
    let out = c.args.starts.now in
    let told = refused_result v (read_plan_file v s (length out)) out (FileTooLong 1400) (plan_too_long v s (length out) sound c.if-file-gt-MOST_BYTES.true) in
    record { value = told.0; starts_after = told.1 }

pub read_rows-requires : goal.read_rows-requires
unfolding view
read_rows-requires c =
    let sound = sym c.check_request.ensures ∙ c.in_ok-check_request.was in
    let limits = checked_limits c.args.request (whole c.args.request _ c.well_formed.0) sound in
    record { demand_count_bound = limits.most_demands; file_len_bound = c.if-file-gt-MOST_BYTES.false }

pub returns-in_err-rows : goal.returns-in_err-rows
returns-in_err-rows c =
    let sound = sym c.check_request.ensures ∙ c.in_ok-check_request.was in
    let short = c.if-file-gt-MOST_BYTES.false in
    let v = view c.args.request in
    let s = c.args.file.now in
    let out = c.args.starts.now in
    let fault = packed_refused (read_rows 201 v s 0 []) _ (sym c.read_rows.ensures ∙ c.in_err-rows.was) in
    let told = refused_result v (read_plan_file v s (length out)) out _ (plan_row_refused v s (length out) sound short _ fault) in
    record { value = search (rules, told.0); starts_after = told.1 }

pub slice_bounds-rows-end : goal.slice_bounds-rows-end
unfolding view
slice_bounds-rows-end c =
    let sound = sym c.check_request.ensures ∙ c.in_ok-check_request.was in
    let limits = checked_limits c.args.request (whole c.args.request _ c.well_formed.0) sound in
    let long = packed_whole _ _ (sym c.read_rows.ensures ∙ c.in_ok-rows.was) in
    omega (arith, limits.most_demands)

pub slice_bounds-all_given-end : goal.slice_bounds-all_given-end
unfolding view
slice_bounds-all_given-end c =
    let sound = sym c.check_request.ensures ∙ c.in_ok-check_request.was in
    let limits = checked_limits c.args.request (whole c.args.request _ c.well_formed.0) sound in
    let long = packed_whole _ _ (sym c.read_rows.ensures ∙ c.in_ok-rows.was) in
    sym (length-take-le _ _ (omega (arith, limits.most_demands)))

pub returns-in_err-found : goal.returns-in_err-found
unfolding view
returns-in_err-found c =
    let sound = sym c.check_request.ensures ∙ c.in_ok-check_request.was in
    let limits = checked_limits c.args.request (whole c.args.request _ c.well_formed.0) sound in
    let short = c.if-file-gt-MOST_BYTES.false in
    let v = view c.args.request in
    let s = c.args.file.now in
    let out = c.args.starts.now in
    let told = missing_answer v s out sound limits.demands_there limits.most_demands short _ _ (sym c.read_rows.ensures ∙ c.in_ok-rows.was) (sym c.all_given.ensures ∙ c.in_err-found.was) in
    record { value = search (rules, told); starts_after = sym (read_refused_keeps v (read_plan_file v s (length out)) out _ (sym told)) }

pub slice_bounds-found-end : goal.slice_bounds-found-end
unfolding view
slice_bounds-found-end c =
    let sound = sym c.check_request.ensures ∙ c.in_ok-check_request.was in
    let limits = checked_limits c.args.request (whole c.args.request _ c.well_formed.0) sound in
    let all = all_read (view c.args.request) c.args.file.now _ _ (sym c.read_rows.ensures ∙ c.in_ok-rows.was) (sym c.all_given.ensures ∙ c.in_ok-found.was) limits.most_demands in
    omega (arith, limits.most_demands, all.whole)

pub slice_bounds-check_starts-end : goal.slice_bounds-check_starts-end
unfolding view
slice_bounds-check_starts-end c =
    let sound = sym c.check_request.ensures ∙ c.in_ok-check_request.was in
    let limits = checked_limits c.args.request (whole c.args.request _ c.well_formed.0) sound in
    let all = all_read (view c.args.request) c.args.file.now _ _ (sym c.read_rows.ensures ∙ c.in_ok-rows.was) (sym c.all_given.ensures ∙ c.in_ok-found.was) limits.most_demands in
    sym (length-take-le _ _ (omega (arith, limits.most_demands, all.whole)))

pub returns-in_err-end : goal.returns-in_err-end
unfolding view
returns-in_err-end c =
    let sound = sym c.check_request.ensures ∙ c.in_ok-check_request.was in
    let limits = checked_limits c.args.request (whole c.args.request _ c.well_formed.0) sound in
    let short = c.if-file-gt-MOST_BYTES.false in
    let v = view c.args.request in
    let s = c.args.file.now in
    let out = c.args.starts.now in
    let all = all_read v s _ _ (sym c.read_rows.ensures ∙ c.in_ok-rows.was) (sym c.all_given.ensures ∙ c.in_ok-found.was) limits.most_demands in
    let has = given_to v.demand_count all.rows in
    let starts = starts_of v.demand_count all.rows in
    let fault = ap (starts_reply v) (sym all.front) ∙ sym c.check_starts.ensures ∙ c.in_err-end.was in
    let told = rows_unsound v has starts (length out) all.none_missing _ fault ∙ rows_reply_lem v s out all.rows sound limits.demands_there short all.whole_file in
    record { value = search (rules, told); starts_after = sym (read_refused_keeps v (read_plan_file v s (length out)) out _ (sym told)) }

pub returns-in_err-check_room : goal.returns-in_err-check_room
unfolding view
returns-in_err-check_room c =
    let sound = sym c.check_request.ensures ∙ c.in_ok-check_request.was in
    let limits = checked_limits c.args.request (whole c.args.request _ c.well_formed.0) sound in
    let short = c.if-file-gt-MOST_BYTES.false in
    let v = view c.args.request in
    let s = c.args.file.now in
    let out = c.args.starts.now in
    let all = all_read v s _ _ (sym c.read_rows.ensures ∙ c.in_ok-rows.was) (sym c.all_given.ensures ∙ c.in_ok-found.was) limits.most_demands in
    let has = given_to v.demand_count all.rows in
    let starts = starts_of v.demand_count all.rows in
    let passed = ap (starts_reply v) (sym all.front) ∙ sym c.check_starts.ensures ∙ c.in_ok-end.was in
    let told = rows_no_room v has starts (length out) all.none_missing _ passed _ (sym c.check_room.ensures ∙ c.in_err-check_room.was) ∙ rows_reply_lem v s out all.rows sound limits.demands_there short all.whole_file in
    record { value = search (rules, told); starts_after = sym (read_refused_keeps v (read_plan_file v s (length out)) out _ (sym told)) }

pub slice_bounds-found-end-2 : goal.slice_bounds-found-end-2
unfolding view
slice_bounds-found-end-2 c =
    let sound = sym c.check_request.ensures ∙ c.in_ok-check_request.was in
    let limits = checked_limits c.args.request (whole c.args.request _ c.well_formed.0) sound in
    let all = all_read (view c.args.request) c.args.file.now _ _ (sym c.read_rows.ensures ∙ c.in_ok-rows.was) (sym c.all_given.ensures ∙ c.in_ok-found.was) limits.most_demands in
    omega (arith, limits.most_demands, all.whole)

pub slice_bounds-write_front-end : goal.slice_bounds-write_front-end
unfolding view
slice_bounds-write_front-end c =
    let sound = sym c.check_request.ensures ∙ c.in_ok-check_request.was in
    let limits = checked_limits c.args.request (whole c.args.request _ c.well_formed.0) sound in
    let all = all_read (view c.args.request) c.args.file.now _ _ (sym c.read_rows.ensures ∙ c.in_ok-rows.was) (sym c.all_given.ensures ∙ c.in_ok-found.was) limits.most_demands in
    sym (length-take-le _ _ (omega (arith, limits.most_demands, all.whole)))

pub returns : goal.returns
unfolding view
returns c =
    let sound = sym c.check_request.ensures ∙ c.in_ok-check_request.was in
    let limits = checked_limits c.args.request (whole c.args.request _ c.well_formed.0) sound in
    let short = c.if-file-gt-MOST_BYTES.false in
    let v = view c.args.request in
    let s = c.args.file.now in
    let out = c.args.starts.now in
    let all = all_read v s _ _ (sym c.read_rows.ensures ∙ c.in_ok-rows.was) (sym c.all_given.ensures ∙ c.in_ok-found.was) limits.most_demands in
    let has = given_to v.demand_count all.rows in
    let starts = starts_of v.demand_count all.rows in
    let passed = ap (starts_reply v) (sym all.front) ∙ sym c.check_starts.ensures ∙ c.in_ok-end.was in
    let told = sym passed ∙ rows_answered v has starts (length out) all.none_missing _ passed (sym c.check_room.ensures ∙ c.in_ok-check_room.was) ∙ rows_reply_lem v s out all.rows sound limits.demands_there short all.whole_file in
    record {
      value = told;
      starts_after = c.write_front.ensures ∙ ap (λ (t : List ℕ). over (take (length out) t) out) all.front
          ∙ rows_kept v s out all.rows sound limits.demands_there short all.whole_file _ (sym told);
    }
