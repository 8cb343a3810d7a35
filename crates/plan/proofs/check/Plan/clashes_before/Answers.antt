use Rattle.std.specs.Prelude.{not}
use Rattle.std.proofs.Common.{◌≡◌, ap, sym, ◌∙◌, arith}
use Rattle.std.proofs.lemmas.Bool.{not-true, not-false}
use Rattle.meeting.specs.inner.Small.{problem_in}
use Rattle.meeting.specs.Plan.{start_at}
use Rattle.plan.specs.TurnLaws.{row_clash, row_clear, row_none}
use Rattle.plan.proofs.check.Plan.clashes_before.Goals as goal

pub returns-then-clash : goal.returns-then-clash
returns-then-clash c =
    let plan = c.args.self.now in
    let k = c.args.k in
    sym (ap not (c.loop-j.invariant
    ∙ row_clash (problem_in plan.compact.now) plan.starts.now c.loop-j.j k (start_at plan.starts.now k) c.loop-j-test.true
    (not-true _ (sym c.clash.ensures ∙ c.if-clash.true))))

pub loop-j-preserved : goal.loop-j-preserved
loop-j-preserved c =
    let plan = c.args.self.now in
    let k = c.args.k in
    c.loop-j.invariant
    ∙ row_clear (problem_in plan.compact.now) plan.starts.now c.loop-j.j k (start_at plan.starts.now k) c.loop-j-test.true
    (not-false _ (sym c.clash.ensures ∙ c.if-clash.false))

pub returns : goal.returns
returns c =
    let plan = c.args.self.now in
    let k = c.args.k in
    let done : c.loop-j.j ≡ 0 = omega arith in
    let whole = rw done at c.loop-j.invariant in
    sym (ap not (whole ∙ row_none (problem_in plan.compact.now) plan.starts.now k (start_at plan.starts.now k)))
