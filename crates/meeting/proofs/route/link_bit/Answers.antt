use borrow.Author.Rules.{rules}
use Rattle.meeting.specs.WordLaws.{bit_low, bit_high}
use Rattle.meeting.proofs.route.link_bit.Goals as goal

pub returns-then-link-lt64 : goal.returns-then-link-lt64
returns-then-link-lt64 c = bit_low c.args.link (search rules)

pub returns-else-link-lt64 : goal.returns-else-link-lt64
returns-else-link-lt64 c = bit_high c.args.link (search rules)
