use Rattle.std.specs.Prelude.{[], ◌+◌, ◌≤◌, get_or, take}
use Rattle.std.proofs.Common.{sym, ◌∙◌, arith, rules}
use Rattle.theory.specs.Problem.{fill}
use Rattle.meeting.specs.inner.Small.{problem_in}
use Rattle.placing.proofs.PlacementLaws.{placed_none, beside_rows, refused_reply, found_inside, placed_more, placed_answer, placed_kept}
use Rattle.placing.proofs.fit.place_all.Goals as goal

pub loop-position-init : goal.loop-position-init
loop-position-init c = placed_none c.args.compact.now c.args.order.now

pub returns-in_default-clause-unplaced : goal.returns-in_default-clause-unplaced
unfolding problem_in
returns-in_default-clause-unplaced c =
    let compact = c.args.compact.now in
    let order = c.args.order.now in
    let at = c.loop-position in
    let k = at.position-index in
    let inside = c.loop-position-test.true in
    let beside = c.place_beside-placement.ensures ∙ beside_rows compact (fill (problem_in compact) [] (take k order)) at.plan.starts at.ends (get_or order k 0) c.requires.small (search rules) at.invariant.standing in
    refused_reply compact order k at.plan.end at.plan.starts at.plan.blockers at.ends inside c.requires at.invariant
    c.place_beside-placement.result beside _ c.entry-blocker.ensures (sym c.in_default.is) (c.requires.small.width_in_band _)

pub overflow_add-end : goal.overflow_add-end
unfolding problem_in
overflow_add-end c =
    let compact = c.args.compact.now in
    let order = c.args.order.now in
    let at = c.loop-position in
    let k = at.position-index in
    let beside = c.place_beside-placement.ensures ∙ beside_rows compact (fill (problem_in compact) [] (take k order)) at.plan.starts at.ends (get_or order k 0) c.requires.small (search rules) at.invariant.standing in
    let inside : c.in-Some.start + get_or compact.widths (get_or order k 0) 0 ≤ compact.slots
    = found_inside compact order k at.plan.end at.plan.starts at.plan.blockers at.ends c.loop-position-test.true c.requires at.invariant
    c.place_beside-placement.result beside _ c.entry-blocker.ensures c.in-Some.start (sym c.in-Some.is) in
    omega (arith, c.requires.small.most_slots)

pub loop-position-preserved : goal.loop-position-preserved
unfolding problem_in
loop-position-preserved c =
    let compact = c.args.compact.now in
    let order = c.args.order.now in
    let at = c.loop-position in
    let k = at.position-index in
    let beside = c.place_beside-placement.ensures ∙ beside_rows compact (fill (problem_in compact) [] (take k order)) at.plan.starts at.ends (get_or order k 0) c.requires.small (search rules) at.invariant.standing in
    placed_more compact order k at.plan.end at.plan.starts at.plan.blockers at.ends c.loop-position-test.true c.requires at.invariant
    c.place_beside-placement.result beside _ c.entry-blocker.ensures c.in-Some.start c.max.result (sym c.in-Some.is) c.max.ensures

pub returns-clause-end : goal.returns-clause-end
returns-clause-end c =
    let at = c.loop-position in
    placed_answer c.args.compact.now c.args.order.now at.position-index at.plan.end at.plan.starts at.plan.blockers at.ends c.loop-position-test.false at.invariant

pub returns-clause-kept : goal.returns-clause-kept
returns-clause-kept c =
    let at = c.loop-position in
    placed_kept c.args.compact.now c.args.order.now at.position-index at.plan.end at.plan.starts at.plan.blockers at.ends c.loop-position-test.false at.invariant
