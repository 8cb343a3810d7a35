use Rattle.std.proofs.Common.{ap, ◌∙◌, arith}
use Rattle.report.specs.declared.Page.{Page}
use Rattle.report.specs.Text.{decimal, appended}
use Rattle.report.specs.TextLaws.{decimal_digits, appended_twice}
use Rattle.report.specs.Lines.{named}
use Rattle.report.proofs.Page.put_named.Goals as goal

pub put_number-requires : goal.put_number-requires
put_number-requires c = omega (arith, decimal_digits 19 c.args.n (omega arith))

pub returns-clause-value : goal.returns-clause-value
unfolding named
returns-clause-value c =
    c.put_number.ensures.value ∙ ap (λ (p : Page). appended p (decimal c.args.n)) c.put_text.ensures.value
    ∙ appended_twice c.args.self.now c.args.name.now (decimal c.args.n)
