use Rattle.std.specs.Prelude.{◌+◌, ◌≤◌, get_or}
use Rattle.std.proofs.Common.{refl, arith}
use Rattle.meeting.specs.inner.Small.{problem_in}
use Rattle.certify.specs.SumLaws.{sum_none, sum_more, sum_all}
use Rattle.certify.proofs.weighed_sum.Goals as goal

pub loop-i-init : goal.loop-i-init
loop-i-init c =
    let compact = c.args.compact.now in
    sum_none (problem_in compact) compact.guard compact.count c.args.weights.now

pub loop-i-preserved : goal.loop-i-preserved
unfolding problem_in
loop-i-preserved c =
    let compact = c.args.compact.now in
    let weights = c.args.weights.now in
    let small = c.requires.small in
    let at = c.loop-i in
    let weight_small : get_or weights at.i 0 ≤ 255 = omega (arith, c.type_inv.weights at.i) in
    rw (c.from-in-loop-i.ensures, c.from.ensures, c.from-guard.ensures)
    (sum_more (problem_in compact) compact.guard compact.count weights at.sum at.i (get_or weights at.i 0) (get_or compact.widths at.i 0 + compact.guard)
    (omega arith) refl refl weight_small (omega (arith, small.width_in_band at.i, small.most_slots, small.most_guard)) at.invariant)

pub returns : goal.returns
returns c =
    let compact = c.args.compact.now in
    let at = c.loop-i in (
      sum_all (problem_in compact) compact.guard compact.count c.args.weights.now at.sum at.i (omega arith) at.invariant,
      omega (arith, at.invariant.small, c.requires.small.most_demands),
    )
