use mathlib.Core.Path.{◌≡◌}
use Rattle.search.specs.inner.Scan.{look_past}
use Rattle.search.proofs.walk.Level.look.Given as goal

abbrev pub invariant-loop-k : goal.invariant-loop-k
invariant-loop-k l = l.next ≡ look_past l.near l.self.low l.self.past l.end l.from l.k
