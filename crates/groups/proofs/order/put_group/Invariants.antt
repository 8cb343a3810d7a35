use Rattle.std.specs.Prelude.{◌≡◌, ◌++◌, ◌+◌, length, take}
use Rattle.theory.specs.Orders.{count_up}
use Rattle.groups.proofs.order.put_group.Given as goal

abbrev pub invariant-loop-k : goal.invariant-loop-k
invariant-loop-k l =
    (length l.along ≡ 200) × (take (l.at + l.k) l.along ≡ take l.at l.initial.along ++ count_up l.k l.first)
