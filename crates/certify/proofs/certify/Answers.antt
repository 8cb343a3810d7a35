use Rattle.std.proofs.Common.{sym, ap, ◌∙◌}
use Rattle.std.proofs.lemmas.Result.{err_from_is_err_and}
use Rattle.request.specs.View.{view}
use Rattle.request.proofs.Arrays.{whole}
use Rattle.plan.specs.SmallLaws.{passed, small_kept}
use Rattle.certify.specs.Reply.{after_plan, certify_reply}
use Rattle.certify.specs.PlanLaws.{accepted_sound}
use Rattle.certify.specs.SmallLaws.{small_told}
use Rattle.certify.proofs.certify.Goals as goal

pub returns-in_err-end : goal.returns-in_err-end
unfolding certify_reply after_plan
returns-in_err-end c =
    let a = c.args in
    let handed-on = err_from_is_err_and c.from_residual.result c.from_residual.ensures.1 in
    rw (handed-on.1, handed-on.2) (sym (ap (after_plan (view a.request) a.weights.now a.a) (sym c.check_starts.ensures ∙ c.in_err-end.was)))

pub told_by-requires : goal.told_by-requires
told_by-requires c =
    let r = c.args.request in
    let accepted = accepted_sound (view r) c.args.starts.now c.in_ok-end.end (sym c.check_starts.ensures ∙ c.in_ok-end.was) in
    let (limits, sound) = passed r (whole r _ c.well_formed.0) accepted in
    small_kept (view r) sound limits _ c.compacted.ensures

pub returns : goal.returns
unfolding certify_reply after_plan
returns c =
    let a = c.args in
    let r = c.args.request in
    let accepted = sym c.check_starts.ensures ∙ c.in_ok-end.was in
    let (limits, sound) = passed r (whole r _ c.well_formed.0) (accepted_sound (view r) a.starts.now c.in_ok-end.end accepted) in
    c.told_by.ensures
    ∙ small_told (view r) sound limits _ c.compacted.ensures a.weights.now a.a c.in_ok-end.end
    ∙ sym (ap (after_plan (view r) a.weights.now a.a) accepted)
