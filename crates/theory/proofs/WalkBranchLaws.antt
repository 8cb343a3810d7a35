-- The walk branch by branch: what each of its definitions comes to, case by case.
use Rattle.std.specs.Prelude.{ℕ, zero, suc, ◌≤◌, ◌<◌, true, false, cond, List, [], ◌∷◌, ◌++◌, ◌≡◌, eqb}
use Rattle.std.proofs.Math.Path.{refl}
use borrow.Author.Tests.{lt-ltb, le-ltb, le-leb, lt-leb, eq-eqb, ne_eqb}
use Rattle.theory.specs.Problem.{Problem, Row, place, top}
use Rattle.theory.specs.Orders.{factorial}
use Rattle.theory.specs.Walk.{at_bound, Tally, stepped, leave, exhausted, equalled, improved, goes_on, complete, judge, step, siblings, walk}

module _ (P : Problem) (limit bound : ℕ) where
  -- a complete order not below the mark is only counted
  pub complete_equalled : (rows : List Row) (order : List ℕ) (t : Tally) → t.mark ≤ top P rows →
      complete P limit bound rows order t ≡ equalled t
  unfolding complete
  complete_equalled rows order t h = rw le-ltb

  -- a complete order below the mark becomes the best; the walk ends if it meets the bound
  pub complete_better : (rows : List Row) (order : List ℕ) (t : Tally) → top P rows < t.mark →
      complete P limit bound rows order t ≡
      improved (top P rows) rows order (cond (eqb (top P rows) bound) at_bound t.course) t
  unfolding complete
  complete_better rows order t h = rw lt-ltb

  -- a complete order below the mark and at the bound becomes the best, and the walk ends
  pub complete_at_bound : (rows : List Row) (order : List ℕ) (t : Tally) → top P rows < t.mark → top P rows ≡ bound →
      complete P limit bound rows order t ≡ improved (top P rows) rows order at_bound t
  complete_at_bound rows order t h e = rw (complete_better rows order t h, eq-eqb (top P rows) bound e)

  -- a complete order below the mark but not at the bound becomes the best, and the walk goes on as it did
  pub complete_above_bound : (rows : List Row) (order : List ℕ) (t : Tally) → top P rows < t.mark → (top P rows ≡ bound → ⊥) →
      complete P limit bound rows order t ≡ improved (top P rows) rows order t.course t
  complete_above_bound rows order t h e = rw (complete_better rows order t h, ne_eqb (top P rows) bound e)

  -- with nothing left to place the order is complete
  pub judge_complete : (deeper : List Row → List ℕ → List ℕ → Tally → Tally) (rows : List Row) (path left : List ℕ) (t : Tally) →
      judge P limit bound deeper zero rows path left t ≡ complete P limit bound rows path t
  unfolding judge
  judge_complete deeper rows path left t = refl

  -- a branch that is not below the mark is left, and all its orders are ruled out
  pub judge_left : (deeper : List Row → List ℕ → List ℕ → Tally → Tally) (n : ℕ) (rows : List Row) (path left : List ℕ) (t : Tally) →
      t.mark ≤ top P rows → judge P limit bound deeper (suc n) rows path left t ≡ leave (factorial (suc n)) t
  unfolding judge
  judge_left deeper n rows path left t h = rw le-ltb

  -- a branch below the mark is gone into
  pub judge_deeper : (deeper : List Row → List ℕ → List ℕ → Tally → Tally) (n : ℕ) (rows : List Row) (path left : List ℕ) (t : Tally) →
      top P rows < t.mark → judge P limit bound deeper (suc n) rows path left t ≡ deeper rows path left t
  unfolding judge
  judge_deeper deeper n rows path left t h = rw lt-ltb

  -- a step that is due when the limit is used up ends the walk
  pub step_spent : (deeper : List Row → List ℕ → List ℕ → Tally → Tally) (n : ℕ) (rows : List Row) (path : List ℕ) (i : ℕ)
      (left : List ℕ) (t : Tally) → limit ≤ t.steps → step P limit bound deeper n rows path i left t ≡ exhausted t
  unfolding step
  step_spent deeper n rows path i left t h = rw le-leb

  -- a step that is due before that is taken, and its outcome judged
  pub step_taken : (deeper : List Row → List ℕ → List ℕ → Tally → Tally) (n : ℕ) (rows : List Row) (path : List ℕ) (i : ℕ)
      (left : List ℕ) (t : Tally) → t.steps < limit →
      step P limit bound deeper n rows path i left t ≡
      judge P limit bound deeper n (place P rows i) (path ++ (i ∷ [])) left (stepped t)
  unfolding step
  step_taken deeper n rows path i left t h = rw lt-leb

  -- no sibling is left to try
  pub siblings_none : (deeper : List Row → List ℕ → List ℕ → Tally → Tally) (n : ℕ) (rows : List Row) (path before : List ℕ)
      (t : Tally) → siblings P limit bound deeper n rows path before [] t ≡ t
  unfolding siblings
  siblings_none deeper n rows path before t = refl

  -- the walk goes on after a sibling, to the next ones
  pub siblings_on : (deeper : List Row → List ℕ → List ℕ → Tally → Tally) (n : ℕ) (rows : List Row) (path before : List ℕ)
      (i : ℕ) (after : List ℕ) (t : Tally) → goes_on (step P limit bound deeper n rows path i (before ++ after) t).course ≡ true →
      siblings P limit bound deeper n rows path before (i ∷ after) t ≡
      siblings P limit bound deeper n rows path (before ++ (i ∷ [])) after (step P limit bound deeper n rows path i (before ++ after) t)
  unfolding siblings
  siblings_on deeper n rows path before i after t h = rw h

  -- the walk ends with a sibling: the later ones are not tried
  pub siblings_stop : (deeper : List Row → List ℕ → List ℕ → Tally → Tally) (n : ℕ) (rows : List Row) (path before : List ℕ)
      (i : ℕ) (after : List ℕ) (t : Tally) → goes_on (step P limit bound deeper n rows path i (before ++ after) t).course ≡ false →
      siblings P limit bound deeper n rows path before (i ∷ after) t ≡ step P limit bound deeper n rows path i (before ++ after) t
  unfolding siblings
  siblings_stop deeper n rows path before i after t h = rw h

  -- below any other stand the demands not yet placed, tried one after the other
  pub walk_siblings : (n : ℕ) (rows : List Row) (path left : List ℕ) (t : Tally) →
      walk P limit bound (suc n) rows path left t ≡ siblings P limit bound (walk P limit bound n) n rows path [] left t
  unfolding walk
  walk_siblings n rows path left t = refl
