use Rattle.std.specs.Prelude.{◌≤◌}
use Rattle.search.specs.inner.Kept.{Shifted}
use Rattle.search.proofs.walk.bring.Given as goal

abbrev pub invariant-loop-p : goal.invariant-loop-p
invariant-loop-p l = (l.placed ≤ l.p) × (l.p ≤ l.at) × Shifted l.initial.order l.at l.p l.order
