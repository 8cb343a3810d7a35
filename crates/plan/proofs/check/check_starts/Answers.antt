use Rattle.std.proofs.Common.{sym, ap, ap₂, ◌∙◌}
use Rattle.std.proofs.lemmas.Result.{err_from_is_err_and}
use Rattle.request.specs.View.{view}
use Rattle.request.proofs.Arrays.{whole}
use Rattle.meeting.specs.Plan.{end_of_plan}
use Rattle.plan.specs.CheckStarts.{reply_with, starts_reply}
use Rattle.plan.specs.CheckStartsLaws.{request_refused_lem, count_refused, places_decide}
use Rattle.plan.specs.SmallLaws.{passed, small_kept, small_enough, small_places, small_within, small_end}
use Rattle.plan.proofs.check.check_starts.Goals as goal

pub returns-in_err-check_request : goal.returns-in_err-check_request
unfolding starts_reply reply_with
returns-in_err-check_request c =
    let v = view c.args.request in
    let starts = c.args.starts.now in
    let handed-on = err_from_is_err_and c.from_residual.result c.from_residual.ensures.1 in
    rw (handed-on.1, handed-on.2)
    (sym
    (ap (λ x. reply_with x (end_of_plan v starts))
    (request_refused_lem v starts _ (sym c.check_request.ensures ∙ c.in_err-check_request.was))))

pub returns-then-starts-request : goal.returns-then-starts-request
unfolding view starts_reply reply_with
returns-then-starts-request c =
    let v = view c.args.request in
    let starts = c.args.starts.now in
    sym (ap (λ x. reply_with x (end_of_plan v starts))
    (count_refused v starts (sym c.check_request.ensures ∙ c.in_ok-check_request.was) c.if-starts-request.true))

pub invariant_of-plan : goal.invariant_of-plan
unfolding view
invariant_of-plan c =
    let v = view c.args.request in
    let (limits, sound) = passed c.args.request (whole c.args.request _ c.well_formed.0) (sym c.check_request.ensures ∙ c.in_ok-check_request.was) in record {
      small = small_kept v sound limits _ c.compacted-compact.ensures;
      enough = small_enough v sound limits _ c.compacted-compact.ensures c.args.starts.now c.if-starts-request.false;
    }

pub returns-in_err-check : goal.returns-in_err-check
unfolding starts_reply reply_with view
returns-in_err-check c =
    let v = view c.args.request in
    let starts = c.args.starts.now in
    let passes = sym c.check_request.ensures ∙ c.in_ok-check_request.was in
    let (limits, sound) = passed c.args.request (whole c.args.request _ c.well_formed.0) passes in
    let found = c.check.ensures ∙ small_places v sound limits _ c.compacted-compact.ensures starts in
    let handed-on = err_from_is_err_and c.from_residual-in_err-check.result c.from_residual-in_err-check.ensures.1 in
    rw (handed-on.1, handed-on.2)
    (sym (ap (λ x. reply_with x (end_of_plan v starts))
    (places_decide v starts passes c.if-starts-request.false ∙ sym found ∙ c.in_err-check.was)))

pub end-requires : goal.end-requires
unfolding view
end-requires c =
    let v = view c.args.request in
    let starts = c.args.starts.now in
    let (limits, sound) = passed c.args.request (whole c.args.request _ c.well_formed.0) (sym c.check_request.ensures ∙ c.in_ok-check_request.was) in
    let is = c.compacted-compact.ensures in
    small_within v sound limits _ is starts (sym (c.check.ensures ∙ small_places v sound limits _ is starts) ∙ c.in_ok-check.was)

pub returns : goal.returns
unfolding starts_reply reply_with view
returns c =
    let v = view c.args.request in
    let starts = c.args.starts.now in
    let passes = sym c.check_request.ensures ∙ c.in_ok-check_request.was in
    let (limits, sound) = passed c.args.request (whole c.args.request _ c.well_formed.0) passes in
    let is = c.compacted-compact.ensures in
    let found = c.check.ensures ∙ small_places v sound limits _ is starts in
    sym
    (ap₂ reply_with (places_decide v starts passes c.if-starts-request.false ∙ sym found ∙ c.in_ok-check.was)
    (sym (c.end.ensures ∙ small_end v sound limits _ is starts)))
