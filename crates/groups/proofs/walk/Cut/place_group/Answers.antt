use Prim.Native.Nat.{◌+◌, ◌-◌}
use mathlib.Core.List.{[]}
use mathlib.Core.Path.{◌≡◌, sym}
use native.Mathlib.Omega.{arith}
use lib.ListN.{get_or}
use Rattle.meeting.specs.inner.Small.{problem_in}
use Rattle.groups.specs.PlaceLaws.{found_within, so_far_more, group_stuck}
use Rattle.groups.specs.WalkLaws.{on_board, row_meets, group_listed, group_begun, group_left, group_stands}
use Rattle.groups.proofs.walk.Cut.place_group.Goals as goal

pub loop-i-init : goal.loop-i-init
loop-i-init c =
    let r = c.requires in
    let listed = group_listed r.ready c.args.g r.free.0 in
    (omega (arith, r.ready.small.most_demands), r.low, group_begun r.ready c.args.g r.free.0 r.free.2)

pub returns-in_default-clause-left : goal.returns-in_default-clause-left
unfolding problem_in
returns-in_default-clause-left c =
    let r = c.requires in
    let k = c.args.self.now.compact.now in
    let listed = group_listed r.ready c.args.g r.free.0 in
    let spot_is = rw c.from.ensures at c.lowest_spot.ensures in
    λ e.
    group_left r.ready c.args.g r.free.0 r.free.2 c.args.mark
    (group_stuck (on_board k r.ready.small) c.loop-i.auto.i c.loop-i-test.true listed.1 c.loop-i.invariant.2
    (get_or c.args.self.now.table.now c.loop-i.i [])
    (λ j h. row_meets k c.args.self.now.table.now r.ready.meets c.loop-i.i j)
    (c.args.mark - 1) c.lowest_spot.result spot_is c.args.mark (omega (arith, r.low)) (sym c.in_default.is))

pub overflow_add-end : goal.overflow_add-end
overflow_add-end c =
    let at = c.loop-i in
    let k = c.args.self.now.compact.now in
    omega (
      arith,
      c.ranges.mark,
      found_within _ at.level.starts at.level.ends k.count (get_or k.widths at.i 0) c.from.result (c.args.mark - 1) c.in-Some.start
          c.in-Some.ensures,
    )

pub loop-i-preserved : goal.loop-i-preserved
unfolding problem_in
loop-i-preserved c =
    let r = c.requires in
    let k = c.args.self.now.compact.now in
    let at = c.loop-i in
    let listed = group_listed r.ready c.args.g r.free.0 in
    let spot_is = rw c.from.ensures at c.lowest_spot.ensures in
    let within = found_within _ at.level.starts at.level.ends k.count (get_or k.widths at.i 0) c.from.result (c.args.mark - 1) c.in-Some.start c.in-Some.ensures in (
      at.invariant.0,
      omega (arith, within, c.max-level.ensures, at.invariant.1, r.low),
      so_far_more (on_board k r.ready.small) at.auto.i c.loop-i-test.true listed.1 at.invariant.2
          (get_or c.args.self.now.table.now at.i [])
          (λ j h. row_meets k c.args.self.now.table.now r.ready.meets at.i j)
          (c.args.mark - 1) c.lowest_spot.result spot_is c.in-Some.start c.max-level.result (sym c.in-Some.is) c.max-level.ensures,
    )

pub returns-clause-stands : goal.returns-clause-stands
returns-clause-stands c =
    let r = c.requires in
    let at = c.loop-i in
    let done : at.i ≡ get_or c.args.self.now.first (c.args.g + 1) 0 = omega (arith, (group_listed r.ready c.args.g r.free.0).0) in
    λ e. group_stands r.ready c.args.g r.free.0 r.free.2 c.args.mark at.i at.level done r.free.1 at.invariant.1 at.invariant.2
