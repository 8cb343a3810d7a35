use Rattle.meeting.specs.inner.Small.{problem_in}
use Rattle.certify.specs.inner.Sets.{SummedTo}
use Rattle.certify.proofs.weighed_sum.Given as goal

abbrev pub invariant-loop-i : goal.invariant-loop-i
invariant-loop-i l = SummedTo (problem_in l.compact) l.compact.guard l.compact.count l.weights l.sum l.i
