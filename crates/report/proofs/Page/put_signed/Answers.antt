-- The sign stands on the page, if there is one, when the digits come to it.
use Rattle.std.proofs.Common.{[], ◌∷◌, ap, sym, ◌∙◌, arith, length, to_z-of_z}
use Rattle.report.specs.declared.Page.{Page}
use Rattle.report.specs.Text.{decimal, decimal_signed, appended}
use Rattle.report.specs.TextLaws.{appended_twice, appended_length}
use Rattle.report.specs.SignedLaws.{signed_negative, signed_natural, signed_digits}
use Rattle.report.proofs.Page.put_signed.Goals.{then-n-lt0, else-n-lt0}
use Rattle.report.proofs.Page.put_signed.Goals as goal

pub put_number-requires : goal.put_number-requires
put_number-requires c =
    let n = c.args.n in
    let is = rw (to_z-of_z c.ranges.n) at c.unsigned_abs.ensures.value in
    let short = signed_digits 18 n (omega (arith, c.ranges.n.sfits)) in
    elim c.if-n-lt0.branch [
      | then-n-lt0 w ↦
          let low = rw (to_z-of_z c.ranges.n) at w.if-n-lt0.true in
          rw is (omega (arith, ap (λ (p : Page). p.len) w.self-is, ap length (signed_negative n low)))
      | else-n-lt0 w ↦
          let high = rw (to_z-of_z c.ranges.n) at w.if-n-lt0.false in
          rw is (omega (arith, ap (λ (p : Page). p.len) w.self-is, ap length (signed_natural n high)))
    ]

pub returns-clause-value : goal.returns-clause-value
returns-clause-value c =
    let n = c.args.n in
    let page = c.args.self.now in
    let digits = decimal c.unsigned_abs.result in
    let is = rw (to_z-of_z c.ranges.n) at c.unsigned_abs.ensures.value in
    elim c.if-n-lt0.branch [
      | then-n-lt0 w ↦
          let low = rw (to_z-of_z c.ranges.n) at w.if-n-lt0.true in
          c.put_number.ensures.value
          ∙ ap (λ (p : Page). appended p digits) (w.self-is ∙ w.put_text.ensures.value)
          ∙ appended_twice page (45 ∷ []) digits
          ∙ ap (appended page) (rw is (sym (signed_negative n low)))
      | else-n-lt0 w ↦
          let high = rw (to_z-of_z c.ranges.n) at w.if-n-lt0.false in
          c.put_number.ensures.value
          ∙ ap (λ (p : Page). appended p digits) w.self-is
          ∙ ap (appended page) (rw is (sym (signed_natural n high)))
    ]

pub returns-clause-len_bound : goal.returns-clause-len_bound
returns-clause-len_bound c =
    let n = c.args.n in
    omega (
      arith,
      ap (λ (p : Page). p.len) (returns-clause-value c),
      appended_length c.args.self.now (decimal_signed n),
      signed_digits 18 n (omega (arith, c.ranges.n.sfits)),
    )
