use Prim.Native.Nat.{◌-◌}
use lib.ListN.{length, take}
use Rattle.reading.specs.inner.SoFar.{DemandsSoFar}
use Rattle.reading.proofs.read_demands.Given as goal

abbrev pub invariant-loop-at : goal.invariant-loop-at
invariant-loop-at l = DemandsSoFar l.slots (take l.link_count l.links) l.file l.start l.at l.count l.demands l.idents

abbrev pub decreases-loop-at : goal.decreases-loop-at
decreases-loop-at l = length l.file - l.at
