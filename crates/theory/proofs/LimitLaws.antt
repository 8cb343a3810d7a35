-- A walk that did not run out of steps is the walk under every limit of at least the steps that it took.
use Prim.Native.Nat.{ℕ, zero, suc, ◌+◌, ◌≤◌, ◌<◌}
use Rattle.std.specs.Prelude.{true, false, ◌≡◌}
use mathlib.Core.List.{List, [], ◌∷◌, ◌++◌}
use Rattle.std.proofs.Math.Logic.{⊎_elim}
use Rattle.std.proofs.Math.Path.{refl, sym, ap, subst}
use Rattle.std.proofs.Common.{◌∙◌, arith}
use Rattle.std.proofs.Math.ListN.{length, length-append}
use Rattle.theory.specs.Problem.{Problem, Row, place, top}
use Rattle.theory.specs.Walk.{going, out_of_steps, Tally, stepped, exhausted, goes_on, complete, judge, step, siblings, walk}
use Rattle.theory.proofs.WalkBranchLaws.{judge_left, judge_deeper, step_spent, step_taken, siblings_on, siblings_stop}
use Rattle.theory.proofs.TriedLaws.{below_or_not}
use Rattle.theory.proofs.WalkLaws.{going_not_out, on_or_ended, judge_walked, siblings_walked}

module _ (P : Problem) (bound limit other : ℕ) where
  -- a tally that a walk may end with under the other limit too: it did not run out of steps, and took no more than that limit
  Within : Tally → Type 0
  Within u = (u.course ≡ out_of_steps → ⊥) × (u.steps ≤ other)

  -- a level of the walk gives the same under both limits
  Same : ℕ → Type 0
  Same n =
      (rows : List Row) (path left : List ℕ) (t : Tally) → t.course ≡ going → length left ≡ n →
      Within (walk P limit bound n rows path left t) →
      walk P other bound n rows path left t ≡ walk P limit bound n rows path left t

  -- completing an order knows no limit
  complete_same : (rows : List Row) (path : List ℕ) (t : Tally) → complete P other bound rows path t ≡ complete P limit bound rows path t
  unfolding complete
  complete_same rows path t = refl

  -- judging gives the same, if the level below does
  judge_same : (n : ℕ) → Same n → (rows : List Row) (path left : List ℕ) (t : Tally) → t.course ≡ going → length left ≡ n →
      Within (judge P limit bound (walk P limit bound n) n rows path left t) →
      judge P other bound (walk P other bound n) n rows path left t ≡ judge P limit bound (walk P limit bound n) n rows path left t
  unfolding judge Same
  judge_same zero same rows path left t on sized within = complete_same rows path t
  judge_same (suc n) same rows path left t on sized within =
      let down : List Row → List ℕ → List ℕ → Tally → Tally = walk P limit bound (suc n) in
      let down-other : List Row → List ℕ → List ℕ → Tally → Tally = walk P other bound (suc n) in
      ⊎_elim
      (λ (below : top P rows < t.mark).
      let here = judge_deeper P limit bound down n rows path left t below in
      judge_deeper P other bound down-other n rows path left t below
      ∙ same rows path left t on sized (subst Within here within)
      ∙ sym here)
      (λ (not-below : t.mark ≤ top P rows).
      judge_left P other bound down-other n rows path left t not-below
      ∙ sym (judge_left P limit bound down n rows path left t not-below))
      (below_or_not (top P rows) t.mark)

  -- a step gives the same, if the level below does
  step_same : (n : ℕ) → Same n → (rows : List Row) (path : List ℕ) (i : ℕ) (left : List ℕ) (t : Tally) → t.course ≡ going →
      length left ≡ n → Within (step P limit bound (walk P limit bound n) n rows path i left t) →
      step P other bound (walk P other bound n) n rows path i left t ≡ step P limit bound (walk P limit bound n) n rows path i left t
  unfolding stepped exhausted Within
  step_same n same rows path i left t on sized within =
      let judged : Tally = judge P limit bound (walk P limit bound n) n (place P rows i) (path ++ (i ∷ [])) left (stepped t) in
      ⊎_elim
      (λ (allowed : t.steps < limit).
      let here : step P limit bound (walk P limit bound n) n rows path i left t ≡ judged
      = step_taken P limit bound (walk P limit bound n) n rows path i left t allowed in
      let within-judged : Within judged = subst Within here within in
      let rose = (judge_walked P limit bound n (place P rows i) (path ++ (i ∷ [])) left (stepped t) on sized).steps_rise in
      step_taken P other bound (walk P other bound n) n rows path i left t (omega (arith, within-judged.1, rose))
      ∙ judge_same n same (place P rows i) (path ++ (i ∷ [])) left (stepped t) on sized within-judged
      ∙ sym here)
      (λ (spent : limit ≤ t.steps).
      absurd (within.0 (ap (λ (u : Tally). u.course) (step_spent P limit bound (walk P limit bound n) n rows path i left t spent))))
      (below_or_not t.steps limit)

  -- the siblings give the same, if the level below does
  siblings_same : (n : ℕ) → Same n → (rows : List Row) (path before after : List ℕ) (t : Tally) → t.course ≡ going →
      length before + length after ≡ suc n →
      Within (siblings P limit bound (walk P limit bound n) n rows path before after t) →
      siblings P other bound (walk P other bound n) n rows path before after t
      ≡ siblings P limit bound (walk P limit bound n) n rows path before after t
  unfolding Within siblings
  siblings_same n same rows path before [] t on sized within = refl
  siblings_same n same rows path before (i ∷ after) t on sized within =
      let others : length (before ++ after) ≡ n = simp length-append (omega arith) in
      let moved : length (before ++ (i ∷ [])) + length after ≡ suc n = simp length-append (omega arith) in
      let stood : Tally = step P limit bound (walk P limit bound n) n rows path i (before ++ after) t in
      let stood-other : Tally = step P other bound (walk P other bound n) n rows path i (before ++ after) t in
      ⊎_elim
      (λ (still : (stood.course ≡ going) × (goes_on stood.course ≡ true)).
      let later : Tally = siblings P limit bound (walk P limit bound n) n rows path (before ++ (i ∷ [])) after stood in
      let here : siblings P limit bound (walk P limit bound n) n rows path before (i ∷ after) t ≡ later
      = siblings_on P limit bound (walk P limit bound n) n rows path before i after t still.1 in
      let within-later : Within later = subst Within here within in
      let rose = (siblings_walked P limit bound n rows path (before ++ (i ∷ [])) after stood still.0 moved).steps_rise in
      let alike : stood-other ≡ stood
      = step_same n same rows path i (before ++ after) t on others
      (λ out. going_not_out (sym still.0 ∙ out), omega (arith, within-later.1, rose)) in
      siblings_on P other bound (walk P other bound n) n rows path before i after t
      (ap (λ (u : Tally). goes_on u.course) alike ∙ still.1)
      ∙ ap (siblings P other bound (walk P other bound n) n rows path (before ++ (i ∷ [])) after) alike
      ∙ siblings_same n same rows path (before ++ (i ∷ [])) after stood still.0 moved within-later
      ∙ sym here)
      (λ (ended : (stood.course ≡ going → ⊥) × (goes_on stood.course ≡ false)).
      let here : siblings P limit bound (walk P limit bound n) n rows path before (i ∷ after) t ≡ stood
      = siblings_stop P limit bound (walk P limit bound n) n rows path before i after t ended.1 in
      let alike : stood-other ≡ stood
      = step_same n same rows path i (before ++ after) t on others (subst Within here within) in
      siblings_stop P other bound (walk P other bound n) n rows path before i after t
      (ap (λ (u : Tally). goes_on u.course) alike ∙ ended.1)
      ∙ alike
      ∙ sym here)
      (on_or_ended stood.course)

  -- a walk that did not run out of steps gives the same tally under every limit of at least its steps
  pub walk_same : (n : ℕ) (rows : List Row) (path left : List ℕ) (t : Tally) → t.course ≡ going → length left ≡ n →
      ((walk P limit bound n rows path left t).course ≡ out_of_steps → ⊥) → (walk P limit bound n rows path left t).steps ≤ other →
      walk P other bound n rows path left t ≡ walk P limit bound n rows path left t
  unfolding walk Within Same
  walk_same zero rows path left t on sized not-out few = complete_same rows path t
  walk_same (suc n) rows path left t on sized not-out few =
      siblings_same
      n
      (λ (r : List Row) (p l : List ℕ) (u : Tally) o s w. walk_same n r p l u o s w.0 w.1)
      rows
      path
      []
      left
      t
      on
      (omega arith)
      (not-out, few)
