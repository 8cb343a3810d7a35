-- The digits before the last stand on the page, if there are any, when the last one comes to it.
use Rattle.std.proofs.Common.{◌+◌, ◌/◌, ◌%◌, [], ◌∷◌, ap, sym, ◌∙◌, arith}
use Rattle.report.specs.declared.Page.{Page}
use Rattle.report.specs.Text.{decimal, appended}
use Rattle.report.specs.TextLaws.{decimal_small, decimal_large, decimal_small_length, decimal_large_length, decimal_digits, appended_twice, appended_length}
use Rattle.report.proofs.Page.+put_number.Goals.{then-n-ge10, else-n-ge10}
use Rattle.report.proofs.Page.+put_number.Goals as goal

pub put_number-requires : goal.put_number-requires
put_number-requires t c = (omega arith, omega (arith, decimal_large_length c.args.n c.if-n-ge10.true))

pub put_text-requires : goal.put_text-requires
put_text-requires t c =
    elim c.if-n-ge10.branch [
      | then-n-ge10 w ↦
          let n = c.args.n in
          omega (
            arith,
            decimal_large_length n w.if-n-ge10.true,
            ap (λ (p : Page). p.len) (w.self-is ∙ w.put_number.ensures.value),
            appended_length c.args.self.now (decimal (n / 10)),
          )
      | else-n-ge10 w ↦ omega (arith, decimal_small_length c.args.n w.if-n-ge10.false, ap (λ (p : Page). p.len) w.self-is)
    ]

pub returns-clause-value : goal.returns-clause-value
returns-clause-value t c =
    let n = c.args.n in
    let page = c.args.self.now in
    elim c.if-n-ge10.branch [
      | then-n-ge10 w ↦
          c.put_text.ensures.value
          ∙ ap (λ (p : Page). appended p ((48 + n % 10) ∷ [])) (w.self-is ∙ w.put_number.ensures.value)
          ∙ appended_twice page (decimal (n / 10)) ((48 + n % 10) ∷ [])
          ∙ ap (appended page) (sym (decimal_large n w.if-n-ge10.true))
      | else-n-ge10 w ↦
          c.put_text.ensures.value
          ∙ ap (λ (p : Page). appended p ((48 + n % 10) ∷ [])) w.self-is
          ∙ ap (appended page) (sym (decimal_small n w.if-n-ge10.false))
    ]

pub returns-clause-len_bound : goal.returns-clause-len_bound
returns-clause-len_bound t c =
    let n = c.args.n in
    omega (
      arith,
      ap (λ (p : Page). p.len) (returns-clause-value t c),
      appended_length c.args.self.now (decimal n),
      decimal_digits 19 n (omega arith),
    )
