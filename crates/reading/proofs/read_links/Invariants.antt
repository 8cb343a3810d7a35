use Prim.Native.Nat.{◌-◌}
use Rattle.reading.specs.inner.SoFar.{LinksSoFar}
use Rattle.reading.proofs.read_links.Given as goal

abbrev pub invariant-loop-links : goal.invariant-loop-links
invariant-loop-links l = LinksSoFar l.file l.at l.count l.links

abbrev pub decreases-loop-links : goal.decreases-loop-links
decreases-loop-links l = 64 - l.count
