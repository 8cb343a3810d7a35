use Rattle.placing.specs.inner.Placement.{PlacedTo}
use Rattle.placing.proofs.fit.place_all.Given as goal

abbrev pub invariant-loop-position : goal.invariant-loop-position
invariant-loop-position l =
    PlacedTo l.compact l.order l.position-index l.plan.end l.plan.starts l.plan.blockers l.ends
