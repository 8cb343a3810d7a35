-- The walk from a place in the search's arrays, branch by branch.
use Prim.Native.Nat.{ℕ, suc, ◌+◌, ◌-◌, ◌≤◌, ◌<◌}
use Rattle.std.specs.Prelude.{true, false, ◌≡◌, refl, length}
use mathlib.Core.List.{List, [], ◌∷◌, ◌++◌}
use Rattle.std.proofs.Math.Path.{sym, subst, ap}
use Rattle.std.proofs.Common.{◌∙◌, length-append}
use native.Mathlib.Omega.{arith}
use Rattle.std.proofs.Math.ListN.{get_or}
use Rattle.theory.specs.Orders.{factorial}
use Rattle.theory.specs.Problem.{Problem, Row, place, top}
use Rattle.theory.proofs.TestLaws.{by_test}
use Rattle.theory.specs.Walk.{Tally, going, stepped, leave, exhausted, goes_on, complete, judge, step, siblings, walk}
use Rattle.theory.proofs.WalkBranchLaws.{judge_complete, judge_left, judge_deeper, step_spent, step_taken, siblings_none, siblings_on, siblings_stop}
use Rattle.theory.proofs.WalkLaws.{walk_mark, walk_counts}
use Rattle.search.specs.inner.Arrays.{entries, rows_of}
use Rattle.search.specs.ArraysLaws.{entries_none, entries_first, entries_last, entries_length}
use Rattle.search.specs.inner.Tally.{reached_at}
use Rattle.search.specs.inner.Tries.{tried_from, gone_into}

-- a complete order is reached at the top of its rows
pub complete_reached : (P : Problem) (limit bound : ℕ) (rows : List Row) (order : List ℕ) (t : Tally) →
    complete P limit bound rows order t ≡ reached_at (top P rows) bound rows order t
unfolding complete reached_at
complete_reached P limit bound rows order t = refl

module _ (P : Problem) (limit bound K : ℕ) (order low : List ℕ) (n : ℕ) where
  -- the step at place p, as the theory takes it
  step_at : ℕ → Tally → Tally
  step_at p t =
      step P limit bound (walk P limit bound (K - (n + 1))) (K - (n + 1))
      (rows_of low order n) (entries order 0 n) (get_or order p 0) (entries order n (p - n) ++ entries order (p + 1) (K - (p + 1))) t

  -- past the last place nothing is tried
  pub tried_none : (p : ℕ) (t : Tally) → p ≡ K → tried_from P limit bound K order low n p t ≡ t
  unfolding tried_from
  tried_none p t e =
      ap
      (λ (after : List ℕ).
      siblings P limit bound (walk P limit bound (K - (n + 1))) (K - (n + 1)) (rows_of low order n) (entries order 0 n)
      (entries order n (p - n)) after t)
      (ap (λ (m : ℕ). entries order p m) (let none : K - p ≡ 0 = omega arith in none) ∙ entries_none order p)
      ∙ siblings_none P limit bound (walk P limit bound (K - (n + 1))) (K - (n + 1)) (rows_of low order n) (entries order 0 n)
      (entries order n (p - n)) t

  -- those from place p on: the one there, and those after it
  tried_cons : (p : ℕ) (t : Tally) → p < K →
      tried_from P limit bound K order low n p t ≡
      siblings P limit bound (walk P limit bound (K - (n + 1))) (K - (n + 1)) (rows_of low order n) (entries order 0 n)
      (entries order n (p - n)) (get_or order p 0 ∷ entries order (p + 1) (K - (p + 1))) t
  unfolding tried_from
  tried_cons p t h =
      ap
      (λ (after : List ℕ).
      siblings P limit bound (walk P limit bound (K - (n + 1))) (K - (n + 1)) (rows_of low order n) (entries order 0 n)
      (entries order n (p - n)) after t)
      (ap (λ (m : ℕ). entries order p m) (let more : K - p ≡ suc (K - (p + 1)) = omega arith in more)
      ∙ entries_first order p (K - (p + 1))
      ∙ ap (λ (q : ℕ). get_or order p 0 ∷ entries order q (K - (p + 1))) (let next : suc p ≡ p + 1 = omega arith in next))

  -- the walk goes on after the step at place p
  tried_on : (p : ℕ) (t : Tally) → n ≤ p → p < K → goes_on (step_at p t).course ≡ true →
      tried_from P limit bound K order low n p t ≡ tried_from P limit bound K order low n (p + 1) (step_at p t)
  unfolding step_at tried_from
  tried_on p t h k on =
      tried_cons p t k
      ∙ siblings_on P limit bound (walk P limit bound (K - (n + 1))) (K - (n + 1)) (rows_of low order n) (entries order 0 n)
      (entries order n (p - n)) (get_or order p 0) (entries order (p + 1) (K - (p + 1))) t on
      ∙ ap
      (λ (before : List ℕ).
      siblings P limit bound (walk P limit bound (K - (n + 1))) (K - (n + 1)) (rows_of low order n) (entries order 0 n)
      before (entries order (p + 1) (K - (p + 1))) (step_at p t))
      (sym
      (ap (λ (m : ℕ). entries order n m) (let one_more : p + 1 - n ≡ (p - n) + 1 = omega arith in one_more)
      ∙ entries_last order n (p - n)
      ∙ ap (λ (q : ℕ). entries order n (p - n) ++ (get_or order q 0 ∷ [])) (let there : n + (p - n) ≡ p = omega arith in there)))

  -- the walk ends with the step at place p
  tried_stop : (p : ℕ) (t : Tally) → p < K → goes_on (step_at p t).course ≡ false →
      tried_from P limit bound K order low n p t ≡ step_at p t
  unfolding step_at
  tried_stop p t k off =
      tried_cons p t k
      ∙ siblings_stop P limit bound (walk P limit bound (K - (n + 1))) (K - (n + 1)) (rows_of low order n) (entries order 0 n)
      (entries order n (p - n)) (get_or order p 0) (entries order (p + 1) (K - (p + 1))) t off

  -- a step is due and the limit is used up: the walk ends
  pub tried_spent : (p : ℕ) (t : Tally) → p < K → limit ≤ t.steps → tried_from P limit bound K order low n p t ≡ exhausted t
  unfolding step_at exhausted goes_on
  tried_spent p t k spent =
      let is : step_at p t ≡ exhausted t =
      step_spent P limit bound (walk P limit bound (K - (n + 1))) (K - (n + 1)) (rows_of low order n) (entries order 0 n)
      (get_or order p 0) (entries order n (p - n) ++ entries order (p + 1) (K - (p + 1))) t spent in
      tried_stop p t k (ap (λ (u : Tally). goes_on u.course) is) ∙ is

  -- the last demand: the order is complete, and no sibling is left
  pub tried_last : (t : Tally) → n + 1 ≡ K → t.steps < limit →
      tried_from P limit bound K order low n n t ≡
      complete P limit bound (place P (rows_of low order n) (get_or order n 0)) (entries order 0 K) (stepped t)
  unfolding step_at
  tried_last t last due =
      let only : step_at n t ≡ complete P limit bound (place P (rows_of low order n) (get_or order n 0)) (entries order 0 K) (stepped t) =
      step_taken P limit bound (walk P limit bound (K - (n + 1))) (K - (n + 1)) (rows_of low order n) (entries order 0 n)
      (get_or order n 0) (entries order n (n - n) ++ entries order (n + 1) (K - (n + 1))) t due
      ∙ ap
      (λ (m : ℕ).
      judge P limit bound (walk P limit bound (K - (n + 1))) m (place P (rows_of low order n) (get_or order n 0))
      (entries order 0 n ++ (get_or order n 0 ∷ [])) (entries order n (n - n) ++ entries order (n + 1) (K - (n + 1))) (stepped t))
      (let none : K - (n + 1) ≡ 0 = omega arith in none)
      ∙ judge_complete P limit bound (walk P limit bound (K - (n + 1))) (place P (rows_of low order n) (get_or order n 0))
      (entries order 0 n ++ (get_or order n 0 ∷ [])) (entries order n (n - n) ++ entries order (n + 1) (K - (n + 1))) (stepped t)
      ∙ ap (λ (path : List ℕ). complete P limit bound (place P (rows_of low order n) (get_or order n 0)) path (stepped t))
      (ap (λ (q : ℕ). entries order 0 n ++ (get_or order q 0 ∷ [])) (let there : n ≡ 0 + n = omega arith in there)
      ∙ sym (entries_last order 0 n)
      ∙ ap (λ (m : ℕ). entries order 0 m) last) in
      by_test (goes_on (step_at n t).course)
      (λ on. tried_on n t (omega arith) (omega arith) on ∙ tried_none (n + 1) (step_at n t) last ∙ only)
      (λ off. tried_stop n t (omega arith) off ∙ only)

  -- a branch that does not end below the mark is left, and the next is tried
  pub tried_left : (p : ℕ) (t : Tally) → n ≤ p → p < K → n + 1 < K → t.course ≡ going → t.steps < limit →
      t.mark ≤ top P (place P (rows_of low order n) (get_or order p 0)) →
      tried_from P limit bound K order low n p t ≡
      tried_from P limit bound K order low n (p + 1) (leave (factorial (K - (n + 1))) (stepped t))
  unfolding step_at stepped leave goes_on
  tried_left p t h k more on due high =
      let is : step_at p t ≡ leave (factorial (K - (n + 1))) (stepped t) =
      step_taken P limit bound (walk P limit bound (K - (n + 1))) (K - (n + 1)) (rows_of low order n) (entries order 0 n)
      (get_or order p 0) (entries order n (p - n) ++ entries order (p + 1) (K - (p + 1))) t due
      ∙ subst
      (λ (m : ℕ).
      judge P limit bound (walk P limit bound (K - (n + 1))) m (place P (rows_of low order n) (get_or order p 0))
      (entries order 0 n ++ (get_or order p 0 ∷ [])) (entries order n (p - n) ++ entries order (p + 1) (K - (p + 1))) (stepped t)
      ≡ leave (factorial m) (stepped t))
      (let some_left : suc (K - (n + 1 + 1)) ≡ K - (n + 1) = omega arith in some_left)
      (judge_left P limit bound (walk P limit bound (K - (n + 1))) (K - (n + 1 + 1)) (place P (rows_of low order n) (get_or order p 0))
      (entries order 0 n ++ (get_or order p 0 ∷ [])) (entries order n (p - n) ++ entries order (p + 1) (K - (p + 1))) (stepped t) high) in
      tried_on p t h k (ap (λ (u : Tally). goes_on u.course) is ∙ ap goes_on on)
      ∙ ap (λ (u : Tally). tried_from P limit bound K order low n (p + 1) u) is

  -- a branch that ends below the mark is gone into
  into : (p : ℕ) (t : Tally) → n + 1 < K → t.steps < limit →
      top P (place P (rows_of low order n) (get_or order p 0)) < t.mark →
      step_at p t ≡ gone_into P limit bound K order low n p (stepped t)
  unfolding step_at stepped gone_into
  into p t more due less =
      step_taken P limit bound (walk P limit bound (K - (n + 1))) (K - (n + 1)) (rows_of low order n) (entries order 0 n)
      (get_or order p 0) (entries order n (p - n) ++ entries order (p + 1) (K - (p + 1))) t due
      ∙ subst
      (λ (m : ℕ).
      judge P limit bound (walk P limit bound (K - (n + 1))) m (place P (rows_of low order n) (get_or order p 0))
      (entries order 0 n ++ (get_or order p 0 ∷ [])) (entries order n (p - n) ++ entries order (p + 1) (K - (p + 1))) (stepped t)
      ≡ gone_into P limit bound K order low n p (stepped t))
      (let some_left : suc (K - (n + 1 + 1)) ≡ K - (n + 1) = omega arith in some_left)
      (judge_deeper P limit bound (walk P limit bound (K - (n + 1))) (K - (n + 1 + 1)) (place P (rows_of low order n) (get_or order p 0))
      (entries order 0 n ++ (get_or order p 0 ∷ [])) (entries order n (p - n) ++ entries order (p + 1) (K - (p + 1))) (stepped t) less)

  -- the walk below place p goes on, and the next is tried
  pub tried_into : (p : ℕ) (t : Tally) → n ≤ p → p < K → n + 1 < K → t.steps < limit →
      top P (place P (rows_of low order n) (get_or order p 0)) < t.mark →
      (gone_into P limit bound K order low n p (stepped t)).course ≡ going →
      tried_from P limit bound K order low n p t ≡
      tried_from P limit bound K order low n (p + 1) (gone_into P limit bound K order low n p (stepped t))
  unfolding goes_on
  tried_into p t h k more due less on =
      let is = into p t more due less in
      tried_on p t h k (ap (λ (u : Tally). goes_on u.course) is ∙ ap goes_on on)
      ∙ ap (λ (u : Tally). tried_from P limit bound K order low n (p + 1) u) is

  -- the walk below place p ends, and nothing more is tried
  pub tried_ended : (p : ℕ) (t : Tally) → p < K → n + 1 < K → t.steps < limit →
      top P (place P (rows_of low order n) (get_or order p 0)) < t.mark →
      goes_on (gone_into P limit bound K order low n p (stepped t)).course ≡ false →
      tried_from P limit bound K order low n p t ≡ gone_into P limit bound K order low n p (stepped t)
  tried_ended p t k more due less off =
      let is = into p t more due less in
      tried_stop p t k (ap (λ (u : Tally). goes_on u.course) is ∙ off) ∙ is

  -- below place p as many are left as there are places but one
  left_length : (p : ℕ) → n ≤ p → p < K → length (entries order n (p - n) ++ entries order (p + 1) (K - (p + 1))) ≡ K - (n + 1)
  left_length p h k =
      omega (
        arith,
        length-append (entries order n (p - n)) (entries order (p + 1) (K - (p + 1))),
        entries_length order n (p - n),
        entries_length order (p + 1) (K - (p + 1)),
      )

  -- the walk below place p never raises the mark
  pub gone_mark : (p : ℕ) (t : Tally) → n ≤ p → p < K → t.course ≡ going →
      (gone_into P limit bound K order low n p t).mark ≤ t.mark
  unfolding gone_into
  gone_mark p t h k on =
      walk_mark P limit bound (K - (n + 1)) (place P (rows_of low order n) (get_or order p 0)) (entries order 0 n ++ (get_or order p 0 ∷ []))
      (entries order n (p - n) ++ entries order (p + 1) (K - (p + 1))) t on (left_length p h k)

  -- the walk below place p counts no more orders than there are below it
  pub gone_counts : (p : ℕ) (t : Tally) → n ≤ p → p < K → t.course ≡ going →
      (gone_into P limit bound K order low n p t).reached + (gone_into P limit bound K order low n p t).ruled ≤
      t.reached + t.ruled + factorial (K - (n + 1))
  unfolding gone_into
  gone_counts p t h k on =
      walk_counts P limit bound (K - (n + 1)) (place P (rows_of low order n) (get_or order p 0)) (entries order 0 n ++ (get_or order p 0 ∷ []))
      (entries order n (p - n) ++ entries order (p + 1) (K - (p + 1))) t on (left_length p h k)
