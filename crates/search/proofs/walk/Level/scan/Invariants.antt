use Prim.Native.Nat.{◌-◌, ◌≤◌}
use Rattle.search.specs.inner.Scan.{Unpassed}
use Rattle.search.proofs.walk.Level.scan.Given as goal

abbrev pub invariant-loop-s : goal.invariant-loop-s
invariant-loop-s l = (l.from ≤ l.s) × (l.s ≤ 392) × Unpassed l.near l.self.low l.self.past l.count l.span l.from l.s

abbrev pub decreases-loop-s : goal.decreases-loop-s
decreases-loop-s l = 392 - l.s
