use Rattle.std.proofs.Common.{sym, ◌∙◌, leb-true, leb-false}
use Rattle.meeting.specs.inner.Small.{problem_in}
use Rattle.meeting.specs.Plan.{start_at}
use Rattle.plan.specs.TurnLaws.{end_passes, end_refused, ends_done}
use Rattle.plan.proofs.check.Plan.check_ends.Goals as goal

pub returns-then-not-end_within : goal.returns-then-not-end_within
unfolding start_at problem_in
returns-then-not-end_within c =
    let compact = c.args.self.now.compact.now in
    let at = c.loop-k in
    sym (at.invariant ∙ end_refused (problem_in compact) compact.slots c.args.self.now.starts.now compact.count at.k c.loop-k-test.true
    (leb-false _ _ (sym (rw c.from.ensures at c.end_within.ensures) ∙ c.if-not-end_within.true)))

pub loop-k-preserved : goal.loop-k-preserved
unfolding start_at problem_in
loop-k-preserved c =
    let compact = c.args.self.now.compact.now in
    let at = c.loop-k in
    at.invariant ∙ end_passes (problem_in compact) compact.slots c.args.self.now.starts.now compact.count at.k c.loop-k-test.true
    (leb-true _ _ (sym (rw c.from.ensures at c.end_within.ensures) ∙ c.if-not-end_within.false))

pub returns : goal.returns
returns c =
    let compact = c.args.self.now.compact.now in
    let at = c.loop-k in
    sym (at.invariant ∙ ends_done (problem_in compact) compact.slots c.args.self.now.starts.now compact.count at.k c.loop-k-test.false)
