-- Factorials of the numbers of demands that a search takes.
use Rattle.std.specs.Prelude.{ℕ, zero, suc, ◌+◌, ◌-◌, ◌*◌, ◌^◌, ◌≤◌, ◌<◌, ◌≡◌, refl}
use Rattle.std.proofs.Common.{subst, ap, ◌∙◌, arith, le_refl, le_trans, mul-le-mul_right, one-mul, lit<}
use Rattle.theory.specs.Orders.{factorial}
use Rattle.theory.proofs.OrdersLaws.{factorial_suc}

-- one more number never lowers the factorial
pub factorial_rises : (n : ℕ) → factorial n ≤ factorial (suc n)
factorial_rises n =
    rw factorial_suc
    (subst (λ (m : ℕ). m ≤ suc n * factorial n) (one-mul (factorial n)) (mul-le-mul_right (factorial n) (omega arith)))

-- a larger number has no smaller factorial
pub factorial_grows : (d n : ℕ) → factorial n ≤ factorial (d + n)
factorial_grows zero n = subst (λ (m : ℕ). factorial n ≤ factorial m) (omega arith) (le_refl (factorial n))
factorial_grows (suc d) n =
    le_trans (factorial_grows d n) (subst (λ (m : ℕ). factorial (d + n) ≤ factorial m) (omega arith) (factorial_rises (d + n)))

-- the factorial of a falling number: n times that of n - 1
pub factorial_falls : (n : ℕ) → (n ≡ 0 → ⊥) → factorial n ≡ n * factorial (n - 1)
factorial_falls zero h = absurd (h refl)
factorial_falls (suc n) h = factorial_suc n ∙ ap (λ (m : ℕ). suc n * factorial m) (omega arith)

-- no factorial of 20 or less is above that of 20
pub factorial_most : (n : ℕ) → n ≤ 20 → factorial n ≤ factorial 20
factorial_most n h = subst (λ (m : ℕ). factorial n ≤ factorial m) (omega arith) (factorial_grows (20 - n) n)

-- the factorial of 20 fits 64 bits
pub factorial_fits : factorial 20 < 2 ^ 64
unfolding factorial
factorial_fits = lit< tt
