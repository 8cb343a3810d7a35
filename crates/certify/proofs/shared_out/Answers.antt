use Rattle.std.specs.Prelude.{ℕ, ◌+◌, ◌-◌, ◌/◌, ◌%◌, ◌≤◌, min}
use Rattle.std.proofs.Common.{◌≡◌, ap, ◌∙◌, arith, eqb, eqb-true}
use Rattle.std.proofs.lemmas.Bool.{eqb-false}
use Rattle.theory.specs.Certificate.{certified_end}
use Rattle.theory.proofs.TestLaws.{by_test}
use Rattle.certify.proofs.shared_out.Goals as goal

-- a quotient by 1 or 2 rounded up
rounded_up : (sum a : ℕ) → 1 ≤ a → a ≤ 2 → sum / a + min 1 (sum % a) ≡ (sum + (a - 1)) / a
rounded_up sum a some few =
    by_test (eqb a 1)
    (λ one. rw (eqb-true a 1 one) (omega arith))
    (λ more. let two : a ≡ 2 = omega (arith, eqb-false a 1 more) in rw two (omega arith))

pub returns : goal.returns
unfolding certified_end
returns c =
    let a = c.args in
    c.saturating_sub.ensures
    ∙ ap (λ (share : ℕ). share - a.guard) (c.div_ceil.ensures ∙ rounded_up a.sum a.a c.requires.0 c.requires.1)
