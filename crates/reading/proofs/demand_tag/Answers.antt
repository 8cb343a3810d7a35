use borrow.Author.Tests.{eq-eqb, ne_eqb}
use lib.ListN.{get_or}
use Rattle.reading.specs.Reading.{demand_tag}
use Rattle.reading.proofs.demand_tag.Goals as goal

pub returns-then-file-at-eq5 : goal.returns-then-file-at-eq5
unfolding demand_tag
returns-then-file-at-eq5 c = rw (eq-eqb (get_or c.args.file.now c.args.at 0) 5 c.if-file-at-eq5.true)

pub returns-else-file-at-eq5 : goal.returns-else-file-at-eq5
unfolding demand_tag
returns-else-file-at-eq5 c = rw (ne_eqb (get_or c.args.file.now c.args.at 0) 5 c.if-file-at-eq5.false)
