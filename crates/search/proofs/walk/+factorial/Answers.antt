-- `factorial` meets its contract: the measure is the number itself, and the factorial of 20 fits.
use Rattle.std.proofs.Common.{◌≡◌, ℕ, ◌-◌, ◌*◌, ◌≤◌, sym, subst, ap, ◌∙◌, arith, lt_of_le_of_lt}
use Rattle.theory.specs.Orders as orders
use Rattle.search.specs.FactorialLaws.{factorial_falls, factorial_most, factorial_fits}
use Rattle.search.proofs.walk.+factorial.Goals as goal

-- what the code multiplies is the factorial
same : (n r : ℕ) → (n ≡ 0 → ⊥) → r ≡ orders.factorial (n - 1) → orders.factorial n ≡ n * r
same n r h e = factorial_falls n h ∙ ap (λ (m : ℕ). n * m) (sym e)

pub overflow_mul-result : goal.overflow_mul-result
overflow_mul-result t c =
    record {
      fits =
          lt_of_le_of_lt
          (subst (λ (m : ℕ). m ≤ orders.factorial 20) (same c.args.n c.factorial.result c.if-n-eq0.false c.factorial.ensures)
          (factorial_most c.args.n (omega arith)))
          factorial_fits;
    }

pub returns-then-n-eq0 : goal.returns-then-n-eq0
unfolding orders.factorial
returns-then-n-eq0 t c = rw c.if-n-eq0.true

pub returns-else-n-eq0 : goal.returns-else-n-eq0
returns-else-n-eq0 t c = sym (same c.args.n c.factorial.result c.if-n-eq0.false c.factorial.ensures)
