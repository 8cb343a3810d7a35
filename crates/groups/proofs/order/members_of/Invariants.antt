use Rattle.groups.specs.inner.Members.{WrittenTo}
use Rattle.groups.proofs.order.members_of.Given as goal

abbrev pub invariant-loop-g : goal.invariant-loop-g
invariant-loop-g l = WrittenTo l.count l.order l.first l.along l.at l.g-index
