-- Each part stands behind the one before.
use Rattle.std.specs.Prelude.{ℤ}
use Rattle.std.proofs.Common.{List, ℕ, ◌≡◌, ap, ◌∙◌, arith, to_z-of_z}
use Rattle.report.specs.declared.Page.{Page}
use Rattle.report.specs.Text.{decimal_signed, appended}
use Rattle.report.specs.TextLaws.{decimal_digits, appended_twice}
use Rattle.report.specs.Lines.{named_signed, space, newline}
use Rattle.report.specs.LinesLaws.{row_put}
use Rattle.report.proofs.Page.put_row_line.Goals as goal

-- a name and a signed number, put one after the other
signed_put : {p r : Page} (page : Page) (name : List ℕ) (z : ℤ) → p ≡ appended page name → r ≡ appended p (decimal_signed z) → r ≡ appended page (named_signed name z)
unfolding named_signed
signed_put page name z h e = e ∙ ap (λ (p : Page). appended p (decimal_signed z)) h ∙ appended_twice page name (decimal_signed z)

pub put_number-requires : goal.put_number-requires
put_number-requires c = rw c.from.ensures (omega (arith, decimal_digits 4 c.args.ident (omega arith)))

pub returns : goal.returns
unfolding space newline
returns c =
    let a = c.args in
    row_put a.self.now a.ident a.start a.end a.n a.mhz
    (rw c.from.ensures at c.put_number.ensures.value)
    (rw c.from-2.ensures at c.put_named.ensures.value)
    (rw c.from-3.ensures at c.put_named-2.ensures.value)
    (signed_put _ space a.n c.put_text.ensures.value (rw (to_z-of_z c.ranges.n) at c.put_signed.ensures.value))
    (signed_put _ space a.mhz c.put_text-2.ensures.value (rw (to_z-of_z c.ranges.mhz) at c.put_signed-2.ensures.value))
    c.put_text-3.ensures.value
