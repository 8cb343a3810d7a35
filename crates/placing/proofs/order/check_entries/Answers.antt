use Rattle.std.proofs.Common.{refl, sym, ◌∙◌, get_or, arith}
use Rattle.meeting.specs.inner.Meeting.{marked_in}
use Rattle.meeting.specs.MeetingLaws.{marks_none, marks_more}
use Rattle.placing.proofs.OrderLaws.{entry_above, entry_seen, entry_passes, entries_end}
use Rattle.placing.proofs.order.check_entries.Goals as goal
use Rattle.placing.proofs.order.check_entries.Goals.{then-count-i-via-then-count-i, then-count-i-via-else-count-i+then-seen-i}

pub loop-k-init : goal.loop-k-init
loop-k-init c = (refl, marks_none 200 c.args.order.now)

pub returns-then-count-i : goal.returns-then-count-i
unfolding marked_in
returns-then-count-i c =
    let a = c.args in
    let at = c.loop-k in
    let inside = c.loop-k-test.true in
    elim c.then-count-i.branch [
      | then-count-i-via-then-count-i w ↦ sym (entry_above a.count a.order.now at.k inside w.if-count-i.true) ∙ at.invariant.0
      | then-count-i-via-else-count-i+then-seen-i w ↦ sym (entry_seen a.count a.order.now at.k inside (sym (at.invariant.1.marked (get_or a.order.now at.k 0) (omega (arith, c.requires, w.if-count-i.false))) ∙ w.if-seen-i.true)) ∙ at.invariant.0
    ]

pub loop-k-preserved : goal.loop-k-preserved
unfolding marked_in
loop-k-preserved c =
    let a = c.args in
    let at = c.loop-k in
    let inside = c.loop-k-test.true in
    let i = get_or a.order.now at.k 0 in (
      sym (entry_passes a.count a.order.now at.k inside c.if-count-i.false
          (sym (at.invariant.1.marked i (omega (arith, c.requires))) ∙ c.if-seen-i.false))
          ∙ at.invariant.0,
      marks_more 200 at.seen a.order.now at.k inside (omega (arith, c.requires)) at.invariant.1,
    )

pub returns : goal.returns
returns c =
    let a = c.args in
    let at = c.loop-k in
    sym (entries_end a.count a.order.now at.k (omega (arith, c.requires))) ∙ at.invariant.0
