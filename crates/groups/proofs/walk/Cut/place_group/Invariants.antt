use Prim.Native.Nat.{◌+◌, ◌≤◌, ◌<◌}
use lib.ListN.{get_or}
use Rattle.groups.specs.inner.Walk.{posed, demands, rows_of, GroupSoFar}
use Rattle.groups.proofs.walk.Cut.place_group.Given as goal

abbrev pub invariant-loop-i : goal.invariant-loop-i
invariant-loop-i l =
    let from = get_or l.self.first l.g 0 in
    let to = get_or l.self.first (l.g + 1) 0 in
    let before = l.initial.level in
    (to ≤ 200) × (l.level.top < l.mark)
    × GroupSoFar (posed l.self) (demands l.self) (rows_of l.self before) from to l.i before l.level
