-- What a search promises, outcome by outcome.
use Rattle.std.specs.Prelude.{ℕ, ◌+◌, ◌≤◌, ◌<◌, ◌≢◌, ◌≡◌, length}
use mathlib.Core.List.{List, ◌∷◌, ◌++◌, Memᴰ}
use Rattle.theory.specs.Problem.{Problem, Row, fill, top, Allowed, plan_end, start_in}
use Rattle.theory.specs.Orders.{factorial, orders}
use Rattle.theory.specs.Earlier.{NoRepeats}
use Rattle.theory.specs.Walk.{none_met, met}
use Rattle.theory.specs.Search.{Outcome, finished, nothing_fits, unfinished, unfinished_empty, Answer}
use Rattle.theory.specs.inner.Tried.{ends_at, FirstLowest}

-- no allowed plan whatsoever ends below e
unfoldable pub NoneBelow : Problem → ℕ → List Row → List ℕ → ℕ → Type 0
NoneBelow P S rows todo e = (plan : ℕ → ℕ) → Allowed P S rows todo plan → e ≤ plan_end P rows todo plan

-- what the promises rest on: links are shared both ways, no demand is empty, none stands twice, the rows that stand lie within S, and
-- no allowed plan ends below the bound
pub record Grounds (P : Problem) (S bound : ℕ) (rows : List Row) (todo : List ℕ) : Type 0 where
  pub two_way : (i j : ℕ) → P.joined i j ≡ P.joined j i
  pub wide : (i : ℕ) → Memᴰ i todo → 1 ≤ P.width i
  pub once : NoRepeats todo
  pub rows_within : top P rows ≤ S
  pub bounded : NoneBelow P S rows todo bound

-- the plan shown is what an order gives: it is allowed and ends at e, within the band
pub record Shown (P : Problem) (S : ℕ) (rows : List Row) (todo : List ℕ) (a : Answer) (order : List ℕ) (e : ℕ) : Type 0 where
  pub best_is : a.best ≡ met (fill P rows order) order
  pub order_ends : ends_at P (fill P rows) order ≡ e
  pub within : e ≤ S
  pub allowed : Allowed P S rows todo (start_in (fill P rows order))
  pub plan_ends : plan_end P rows todo (start_in (fill P rows order)) ≡ e

-- finished at e: no allowed plan ends lower, and the order shown is the first that ends there; at the bound the count is the rank of that
-- order, from 1, and above the bound all n! orders are counted
pub record Finished (P : Problem) (S bound : ℕ) (rows : List Row) (todo : List ℕ) (a : Answer) (e : ℕ) : Type 0 where
  pub order : List ℕ
  pub earlier : List (List ℕ)
  pub later : List (List ℕ)
  pub listed : orders todo ≡ earlier ++ (order ∷ later)
  pub shown : Shown P S rows todo a order e
  pub none_lower : NoneBelow P S rows todo e
  pub first : (o : List ℕ) → Memᴰ o earlier → e < ends_at P (fill P rows) o
  pub sum_at_bound : e ≡ bound → a.reached + a.ruled ≡ length earlier + 1
  pub sum_above_bound : e ≢ bound → a.reached + a.ruled ≡ factorial (length todo)

-- nothing fits: there is no allowed plan, and all n! orders are counted
pub record NothingFits (P : Problem) (S : ℕ) (rows : List Row) (todo : List ℕ) (a : Answer) : Type 0 where
  pub best_is : a.best ≡ none_met
  pub none_allowed : (plan : ℕ → ℕ) → Allowed P S rows todo plan → ⊥
  pub sum : a.reached + a.ruled ≡ factorial (length todo)

-- stopped for want of steps: exactly the limit was used, after a first part of all orders, which is not all of them
pub record Stopped (limit : ℕ) (todo : List ℕ) (a : Answer) (taken_in : List (List ℕ)) : Type 0 where
  pub remaining : List (List ℕ)
  pub split : orders todo ≡ taken_in ++ remaining
  pub steps_are : a.steps ≡ limit
  pub sum : a.reached + a.ruled ≡ length taken_in
  pub sum_below : a.reached + a.ruled < factorial (length todo)

-- unfinished at e: the plan shown is that of the first of the lowest among the orders taken in, and ends above the bound and within S
pub record Unfinished (P : Problem) (S bound limit : ℕ) (rows : List Row) (todo : List ℕ) (a : Answer) (e : ℕ) : Type 0 where
  pub order : List ℕ
  pub taken_in : List (List ℕ)
  pub stopped : Stopped limit todo a taken_in
  pub shown : Shown P S rows todo a order e
  pub lowest_first : FirstLowest P (fill P rows) (S + 1) taken_in order
  pub above_bound : bound < e

-- unfinished without a plan: none of the orders taken in ends within S
pub record UnfinishedEmpty (P : Problem) (S limit : ℕ) (rows : List Row) (todo : List ℕ) (a : Answer) : Type 0 where
  pub taken_in : List (List ℕ)
  pub stopped : Stopped limit todo a taken_in
  pub best_is : a.best ≡ none_met
  pub none_within : (o : List ℕ) → Memᴰ o taken_in → S < ends_at P (fill P rows) o

-- what an answer promises, by its outcome
unfoldable pub Promise : Problem → ℕ → ℕ → ℕ → List Row → List ℕ → Answer → Outcome → Type 0
Promise P S bound limit rows todo a (finished e) = Finished P S bound rows todo a e
Promise P S bound limit rows todo a nothing_fits = NothingFits P S rows todo a
Promise P S bound limit rows todo a (unfinished e) = Unfinished P S bound limit rows todo a e
Promise P S bound limit rows todo a unfinished_empty = UnfinishedEmpty P S limit rows todo a
