-- `try_groups` calls `try_group` with the same groups placed, and `try_group` calls `try_groups` with one group more placed.
use Rattle.std.proofs.Common.{◌≡◌, ◌+◌, ◌-◌, ◌*◌}
use Rattle.theory.specs.inner.Tried.{Lead}
use Rattle.groups.specs.inner.Walk.{Held, tried_from}
use Rattle.groups.proofs.walk.Cut.+try_groups.Given as goal

abbrev pub decreases-try_group : goal.decreases-try_group
decreases-try_group l = (l.self.now.m - l.level.now.placed) * 2

abbrev pub decreases-try_groups : goal.decreases-try_groups
decreases-try_groups l = (l.self.now.m - l.level.now.placed) * 2 + 1

-- the best holds a lead from which the groups from g on make what all of them make of the lead that it held at first
abbrev pub invariant-try_groups-loop-g : goal.invariant-try_groups-loop-g
invariant-try_groups-loop-g l =
    (lead : Lead) → Held l.initial.best lead →
    (now : Lead) × Held l.best now × (tried_from l.self l.level l.g now ≡ tried_from l.self l.level 0 lead)
