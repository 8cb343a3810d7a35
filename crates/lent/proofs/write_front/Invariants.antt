use Rattle.std.specs.Prelude.{◌≡◌, ◌≤◌, ◌++◌, length, take, drop}
use Rattle.lent.proofs.write_front.Given as goal

abbrev pub invariant-loop-k : goal.invariant-loop-k
invariant-loop-k l =
    (l.k ≤ length l.entries) × (l.k ≤ length l.initial.out) × (length l.out ≡ length l.initial.out) × (l.out ≡ take l.k l.entries ++ drop l.k l.initial.out)
