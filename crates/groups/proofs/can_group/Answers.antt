use Rattle.std.proofs.Common.{arith}
use Rattle.std.proofs.lemmas.Bool.Decides.{nat_tests}
use Rattle.groups.specs.Reply.{groupable}
use Rattle.groups.proofs.can_group.Goals as goal

pub returns-then-contains : goal.returns-then-contains
unfolding groupable
returns-then-contains c = let te = c.if-contains.ensures in grind (arith, nat_tests)

pub returns-else-contains : goal.returns-else-contains
unfolding groupable
returns-else-contains c =
    let ends = c.new.ensures in
    let v = simp (ends.start, ends.end, ends.exhausted) at c.contains.ensures.value in
    grind (arith, nat_tests)
