use mathlib.Core.Path.{refl}
use native.Mathlib.Omega.{arith}
use lib.ListN.{replicate}
use Rattle.groups.specs.MembersLaws.{written_none, next_rises, next_within, next_left, written_more, written_all}
use Rattle.groups.proofs.order.members_of.Goals as goal

pub loop-g-init : goal.loop-g-init
loop-g-init c =
    written_none c.args.count c.args.order.now c.group_starts-first.result (replicate 200 0) c.requires.filled
    c.group_starts-first.ensures refl

pub overflow_sub-size : goal.overflow_sub-size
overflow_sub-size c = next_rises c.loop-g.invariant c.loop-g-test.true c.from-g.result c.from-g.ensures

pub put_group-requires : goal.put_group-requires
put_group-requires c =
    let so_far = c.loop-g.invariant in
    let rises = next_rises so_far c.loop-g-test.true c.from-g.result c.from-g.ensures in
    let within = next_within so_far c.loop-g-test.true c.from-g.result c.from-g.ensures in
    let left = next_left so_far c.loop-g-test.true c.from-g.result c.from-g.ensures in
    (omega (arith, c.requires.sizes), omega (arith, c.requires.sizes), so_far.full)

pub overflow_add-at : goal.overflow_add-at
overflow_add-at c =
    let left = next_left c.loop-g.invariant c.loop-g-test.true c.from-g.result c.from-g.ensures in
    omega (arith, c.requires.sizes)

pub loop-g-preserved : goal.loop-g-preserved
loop-g-preserved c =
    written_more c.loop-g.invariant c.loop-g-test.true c.from-g.result c.from-g.ensures c.put_group.new.along c.put_group.ensures.kept
    c.put_group.ensures.put

pub returns : goal.returns
returns c = (c.loop-g.invariant.full, written_all c.loop-g.invariant (omega arith))
