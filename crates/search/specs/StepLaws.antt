-- What trying a demand needs and does, in the terms of the level and the counts: one law for each way through the code.
use Rattle.std.specs.Prelude.{ℕ, zero, suc, ◌+◌, ◌-◌, ◌*◌, ◌^◌, ◌≤◌, ◌<◌, max, Bool, false, List, ◌∷◌, ◌≡◌, refl}
use Rattle.std.proofs.Math.Path.{sym, ap}
use Rattle.std.proofs.Common.{subst, ◌∙◌, suc-mul}
use native.Mathlib.Omega.{arith}
use Rattle.std.proofs.Math.ListN.{get_or}
use Rattle.theory.specs.Orders.{factorial}
use Rattle.theory.proofs.OrdersLaws.{factorial_suc, factorial_pos}
use Rattle.theory.specs.Problem.{Problem, Row, end_of, place, top}
use Rattle.theory.proofs.ProblemLaws.{place_is, top_place}
use Rattle.theory.specs.Walk.{stepped, leave, exhausted, goes_on}
use Rattle.theory.specs.Walk as walk
use Rattle.search.specs.declared.tally.Course.{Course}
use Rattle.search.specs.declared.tally.Course.TheVariants.{Going, AtBound, OutOfSteps}
use Rattle.search.specs.declared.tally.Tally.{Tally}
use Rattle.search.specs.inner.Arrays.{problem_of, entries, rows_of}
use Rattle.search.specs.ArraysLaws.{rows_more}
use Rattle.search.specs.FactorialLaws.{factorial_fits}
use Rattle.search.specs.inner.Kept.{Lowest, Ready}
use Rattle.search.specs.KeptLaws.{kept_bounded}
use Rattle.search.specs.inner.Tally.{course_of, tally_of, reached_at, Counting}
use Rattle.search.specs.inner.Tries.{tried_from, gone_into}
use Rattle.search.specs.TriesLaws.{complete_reached, tried_spent, tried_last, tried_left, tried_into, tried_ended, gone_mark, gone_counts}

-- the orders below the siblings from place p on are those below the one there and those below the rest
siblings_orders : (K p f : ℕ) → p < K → (K - p) * f ≡ f + (K - (p + 1)) * f
siblings_orders K p f h =
    ap (λ (m : ℕ). m * f) (let e : K - p ≡ suc (K - (p + 1)) = omega arith in e)
    ∙ suc-mul (K - (p + 1)) f
    ∙ (let e : (K - (p + 1)) * f + f ≡ f + (K - (p + 1)) * f = omega arith in e)

-- the orders below n demands left are those below each of them
pub orders_below : (m : ℕ) → 0 < m → m * factorial (m - 1) ≡ factorial m
orders_below zero h = absurd (omega arith)
orders_below (suc m) h = ap (λ (k : ℕ). suc m * factorial k) (let e : suc m - 1 ≡ m = omega arith in e) ∙ sym (factorial_suc m)

-- before the step at place p there is room for the orders below each sibling from there on; after it, for those below this one and the rest
pub counting_tried : (t : Tally) (K n p : ℕ) → p < K → Counting t ((K - p) * factorial (K - (n + 1))) →
    Counting (record t { steps = t.steps + 1 }) (factorial (K - (n + 1)) + (K - (p + 1)) * factorial (K - (n + 1)))
counting_tried t K n p h counting =
    record {
      on = counting.on;
      room = omega (arith, counting.room, siblings_orders K p (factorial (K - (n + 1))) h);
      low_mark = counting.low_mark;
    }

-- with room for two numbers of orders there is room for the first
pub counting_here : (t : Tally) (f more : ℕ) → Counting t (f + more) → Counting t f
counting_here t f more counting =
    record { on = counting.on; room = omega (arith, counting.room); low_mark = counting.low_mark }

-- with room for one order, one more that is reached fits
pub counting_one : (t : Tally) (m more : ℕ) → Counting t (factorial m + more) → t.reached + 1 < 2 ^ 64
counting_one t m more counting = omega (arith, counting.room, factorial_pos m, factorial_fits)

-- with room for f orders, f more that are ruled out fit
pub counting_more : (t : Tally) (f more : ℕ) → Counting t (f + more) → t.ruled + f < 2 ^ 64
counting_more t f more counting = omega (arith, counting.room, factorial_fits)

-- orders ruled out take the room that was theirs
pub counting_left : (t : Tally) (f more : ℕ) → Counting t (f + more) → Counting (record t { ruled = t.ruled + f }) more
counting_left t f more counting =
    record { on = counting.on; room = omega (arith, counting.room); low_mark = counting.low_mark }

-- room for all orders of the demands left is room for the orders below each of them
pub counting_below : (t : Tally) (K n : ℕ) → n < K → Counting t (factorial (K - n)) → Counting t ((K - n) * factorial (K - (n + 1)))
counting_below t K n h counting =
    subst (λ (orders : ℕ). Counting t orders)
    (sym
    (ap (λ (m : ℕ). (K - n) * factorial m) (let e : K - (n + 1) ≡ K - n - 1 = omega arith in e)
    ∙ orders_below (K - n) (omega arith)))
    counting

-- a course that is not going does not go on
pub stopped : (c : Course) → (c ≡ Going → ⊥) → goes_on (course_of c) ≡ false
unfolding course_of goes_on
stopped Going h = absurd (h refl)
stopped AtBound h = refl
stopped OutOfSteps h = refl

module _ (table : List (List Bool)) (widths : List ℕ) (guard K : ℕ) (order low past : List ℕ) (n p largest : ℕ)
    (ready : Ready table widths guard K order low past n) (h : n ≤ p) (k : p < K)
    (is : largest ≡ top (problem_of table widths guard) (rows_of low order n)) where
  -- the demand at place p starts no higher than 392, is no wider than 384 and is one of the twenty
  pub small_start : (get_or low (get_or order p 0) 0 ≤ 392) × (get_or widths (get_or order p 0) 0 ≤ 384) × (get_or order p 0 < 20)
  small_start = (
    kept_bounded table widths guard K order low past n ready.sized ready.below n ready.kept p h k,
    ready.sized.narrow (get_or order p 0) (ready.listed.inside p k),
    omega (arith, ready.sized.few, ready.listed.inside p k),
  )

  -- the largest end with the demand at place p put down
  pub step_end : max largest (get_or low (get_or order p 0) 0 + get_or widths (get_or order p 0) 0) ≡
      top (problem_of table widths guard) (place (problem_of table widths guard) (rows_of low order n) (get_or order p 0))
  unfolding end_of problem_of Lowest
  step_end =
      omega (
        arith,
        is,
        ready.kept p h k,
        top_place (problem_of table widths guard) (rows_of low order n) (get_or order p 0),
      )

  -- with the last demand put down the rows are those of the whole order
  last_rows : n + 1 ≡ K → rows_of low order K ≡ place (problem_of table widths guard) (rows_of low order n) (get_or order n 0)
  unfolding Lowest
  last_rows last =
      ap (λ (m : ℕ). rows_of low order m) (sym last)
      ∙ rows_more low order n
      ∙ ap (λ (s : ℕ). record { who = get_or order n 0; at = s } ∷ rows_of low order n) (ready.kept n (omega arith) (omega arith))
      ∙ sym (place_is (problem_of table widths guard) (rows_of low order n) (get_or order n 0))

module _ (P : Problem) (limit bound K : ℕ) (order low : List ℕ) (n p : ℕ) (t : Tally) (h : n ≤ p) (k : p < K) where
  -- the limit is used up
  pub ends_spent : limit ≤ t.steps →
      tally_of K (record t { course = OutOfSteps }) ≡ tried_from P limit bound K order low n p (tally_of K t)
  unfolding tally_of course_of exhausted
  ends_spent spent = sym (tried_spent P limit bound K order low n p (tally_of K t) k spent)

  -- the branch is left and the next sibling tried
  pub ends_left : (f : ℕ) → f ≡ factorial (K - (n + 1)) → n + 1 < K → t.course ≡ Going → t.steps < limit →
      t.mark ≤ top P (place P (rows_of low order n) (get_or order p 0)) →
      tried_from P limit bound K order low n (p + 1) (tally_of K (record t { steps = t.steps + 1; ruled = t.ruled + f })) ≡
      tried_from P limit bound K order low n p (tally_of K t)
  unfolding tally_of course_of stepped leave
  ends_left f is more on due high =
      ap (λ (m : ℕ). tried_from P limit bound K order low n (p + 1) (leave m (stepped (tally_of K t)))) is
      ∙ sym (tried_left P limit bound K order low n p (tally_of K t) h k more (ap course_of on) due high)

  -- the walk went below place p, and goes on with the next sibling
  pub ends_into : (u : Tally) → n + 1 < K → t.steps < limit →
      top P (place P (rows_of low order n) (get_or order p 0)) < t.mark → u.course ≡ Going →
      tally_of K u ≡ gone_into P limit bound K order low n p (tally_of K (record t { steps = t.steps + 1 })) →
      tried_from P limit bound K order low n (p + 1) (tally_of K u) ≡ tried_from P limit bound K order low n p (tally_of K t)
  unfolding tally_of course_of stepped
  ends_into u more due less on gone =
      ap (λ (w : walk.Tally). tried_from P limit bound K order low n (p + 1) w) gone
      ∙ sym
      (tried_into P limit bound K order low n p (tally_of K t) h k more due less
      (sym (ap (λ (w : walk.Tally). w.course) gone) ∙ ap course_of on))

  -- the walk went below place p, and ended there
  pub ends_ended : (u : Tally) → n + 1 < K → t.steps < limit →
      top P (place P (rows_of low order n) (get_or order p 0)) < t.mark → (u.course ≡ Going → ⊥) →
      tally_of K u ≡ gone_into P limit bound K order low n p (tally_of K (record t { steps = t.steps + 1 })) →
      tally_of K u ≡ tried_from P limit bound K order low n p (tally_of K t)
  unfolding tally_of stepped
  ends_ended u more due less off gone =
      gone
      ∙ sym
      (tried_ended P limit bound K order low n p (tally_of K t) k more due less
      (sym (ap (λ (w : walk.Tally). goes_on w.course) gone) ∙ stopped u.course off))

  -- after the walk below place p there is room for the orders of the other siblings
  pub counting_gone : (u : Tally) (more : ℕ) → u.course ≡ Going → Counting t (factorial (K - (n + 1)) + more) →
      tally_of K u ≡ gone_into P limit bound K order low n p (tally_of K t) → Counting u more
  unfolding tally_of course_of
  counting_gone u more on' counting gone =
      let reached = ap (λ (w : walk.Tally). w.reached) gone in
      let ruled = ap (λ (w : walk.Tally). w.ruled) gone in
      let mark = ap (λ (w : walk.Tally). w.mark) gone in
      record {
        on = on';
        room =
            omega (
              arith,
              reached,
              ruled,
              counting.room,
              gone_counts P limit bound K order low n p (tally_of K t) h k (ap course_of counting.on),
            );
        low_mark =
            omega (
              arith,
              mark,
              counting.low_mark,
              gone_mark P limit bound K order low n p (tally_of K t) h k (ap course_of counting.on),
            );
      }

-- the last demand was put down: the order is complete
pub ends_last : (table : List (List Bool)) (widths : List ℕ) (guard K : ℕ) (order low past : List ℕ) (n p largest : ℕ) →
    (ready : Ready table widths guard K order low past n) → n ≤ p → p < K →
    largest ≡ top (problem_of table widths guard) (rows_of low order n) → (limit bound e : ℕ) (t u : Tally) →
    K - (n + 1) ≡ 0 → t.steps < limit →
    e ≡ max largest (get_or low (get_or order p 0) 0 + get_or widths (get_or order p 0) 0) →
    tally_of K u ≡
    reached_at e bound (rows_of low order K) (entries order 0 K) (tally_of K (record t { steps = t.steps + 1 })) →
    tally_of K u ≡ tried_from (problem_of table widths guard) limit bound K order low n p (tally_of K t)
unfolding tally_of stepped
ends_last table widths guard K order low past n p largest ready h k is limit bound e t u last due end done =
    let P : Problem = problem_of table widths guard in
    let after : walk.Tally = stepped (tally_of K t) in
    let all : n + 1 ≡ K = omega arith in
    let only : p ≡ n = omega arith in
    let rows = last_rows table widths guard K order low past n p largest ready h k is all in
    let e-is : e ≡ top P (place P (rows_of low order n) (get_or order n 0)) =
    end
    ∙ step_end table widths guard K order low past n p largest ready h k is
    ∙ ap (λ (q : ℕ). top P (place P (rows_of low order n) (get_or order q 0))) only in
    done
    ∙ ap (λ (r : List Row). reached_at e bound r (entries order 0 K) after) rows
    ∙ ap (λ (m : ℕ). reached_at m bound (place P (rows_of low order n) (get_or order n 0)) (entries order 0 K) after) e-is
    ∙ sym (complete_reached P limit bound (place P (rows_of low order n) (get_or order n 0)) (entries order 0 K) after)
    ∙ sym (tried_last P limit bound K order low n (tally_of K t) all due)
    ∙ ap (λ (q : ℕ). tried_from P limit bound K order low n q (tally_of K t)) (sym only)
