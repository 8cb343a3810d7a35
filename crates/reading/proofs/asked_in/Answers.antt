use borrow.Author.Tests.{eq-eqb, ne_eqb}
use Rattle.reading.specs.Reading.{asked_in}
use Rattle.reading.proofs.asked_in.Goals as goal

pub returns-then-tag-eq5 : goal.returns-then-tag-eq5
unfolding asked_in
returns-then-tag-eq5 c = rw (eq-eqb c.args.tag 5 c.if-tag-eq5.true)

pub returns-else-tag-eq5 : goal.returns-else-tag-eq5
unfolding asked_in
returns-else-tag-eq5 c = rw (ne_eqb c.args.tag 5 c.if-tag-eq5.false)
