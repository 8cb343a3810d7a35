use Rattle.std.proofs.Common.{sym, ◌∙◌}
use Rattle.std.proofs.lemmas.Bool.{not-true, not-false}
use Rattle.meeting.specs.inner.Small.{problem_in}
use Rattle.plan.specs.TurnLaws.{clear_passes, clash_refused, clashes_done}
use Rattle.plan.proofs.check.Plan.check_clashes.Goals as goal

pub returns-then-clashes_before : goal.returns-then-clashes_before
returns-then-clashes_before c =
    let plan = c.args.self.now in
    let at = c.loop-k in
    sym (at.invariant ∙ clash_refused (problem_in plan.compact.now) plan.starts.now plan.compact.now.count at.k c.loop-k-test.true
    (not-true _ (sym c.clashes_before.ensures ∙ c.if-clashes_before.true)))

pub loop-k-preserved : goal.loop-k-preserved
loop-k-preserved c =
    let plan = c.args.self.now in
    let at = c.loop-k in
    at.invariant ∙ clear_passes (problem_in plan.compact.now) plan.starts.now plan.compact.now.count at.k c.loop-k-test.true
    (not-false _ (sym c.clashes_before.ensures ∙ c.if-clashes_before.false))

pub returns : goal.returns
returns c =
    let plan = c.args.self.now in
    let at = c.loop-k in
    sym (at.invariant ∙ clashes_done (problem_in plan.compact.now) plan.starts.now plan.compact.now.count at.k c.loop-k-test.false)
