-- First fit along the starts of a plan, half way.
use Rattle.std.specs.Prelude.{ℕ, ◌≤◌, ◌≡◌}
use mathlib.Core.List.{List, Memᴰ}
use Rattle.theory.specs.Problem.{Problem, Row, end_of, fill, top, placed, first_fit, plan_end, start_in}
use Rattle.theory.specs.Earlier.{Chained}

-- along the order starts never fall
unfoldable pub NeverFalling : (ℕ → ℕ) → List ℕ → Type 0
unfolding Chained
NeverFalling plan order = Chained (λ (i j : ℕ). plan i ≤ plan j) order

-- first fit in an order does as well as a plan: it places all demands, each as low as the plan does or lower, and so the whole
pub record AsLow (P : Problem) (S : ℕ) (rows : List Row) (todo : List ℕ) (plan : ℕ → ℕ) (order : List ℕ) : Type 0 where
  pub not_refused : first_fit P S rows order ≡ placed (fill P rows order)
  pub none_higher : (i : ℕ) → Memᴰ i todo → end_of P i (start_in (fill P rows order) i) ≤ end_of P i (plan i)
  pub none_later : (i : ℕ) → Memᴰ i todo → start_in (fill P rows order) i ≤ plan i
  pub top_no_higher : top P (fill P rows order) ≤ plan_end P rows todo plan
