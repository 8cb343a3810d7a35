use Rattle.std.proofs.Common.{sym, ◌∙◌}
use Rattle.std.proofs.lemmas.Result.{err_from_is_err_and}
use Rattle.request.proofs.CheckLaws.{then_sound, then_refused}
use Rattle.plan.specs.inner.Rows.{places_from}
use Rattle.plan.proofs.check.Plan.check.Goals as goal

pub returns-in_err-check_ends : goal.returns-in_err-check_ends
unfolding places_from
returns-in_err-check_ends c =
    let handed-on = err_from_is_err_and c.from_residual.result c.from_residual.ensures.1 in
    rw (handed-on.1, handed-on.2) (sym (then_refused _ _ _ (sym c.check_ends.ensures ∙ c.in_err-check_ends.was)))

pub returns : goal.returns
unfolding places_from
returns c = c.check_clashes.ensures ∙ sym (then_sound _ _ (sym c.check_ends.ensures ∙ c.in_ok-check_ends.was))
