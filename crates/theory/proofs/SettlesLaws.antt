-- A search settles the question exactly when it may take the steps that it needs: those of the search without a limit.
use Prim.Native.Nat.{ℕ, zero, suc, ◌+◌, ◌*◌, ◌≤◌, ◌<◌}
use Rattle.std.specs.Prelude.{true, false, ◌≡◌, refl}
use mathlib.Core.List.{List, [], ◌∷◌, ◌++◌}
use Rattle.std.proofs.Math.Logic.{⊎_elim}
use Rattle.std.proofs.Common.{sym, ◌∙◌, arith}
use Rattle.std.proofs.Math.Path.{ap, subst}
use Rattle.std.proofs.Math.Nat.{zero-mul, suc-mul}
use Rattle.std.proofs.Math.ListN.{length, length-append}
use Rattle.theory.specs.Problem.{Problem, Row, place, top}
use Rattle.theory.specs.Walk.{Best, none_met, met, Course, going, at_bound, out_of_steps, Tally, stepped, leave, equalled, improved, goes_on, complete, judge, step, siblings, walk}
use Rattle.theory.proofs.WalkBranchLaws.{complete_at_bound, complete_above_bound, complete_equalled, judge_left, judge_deeper, step_taken, siblings_on, siblings_stop}
use Rattle.theory.proofs.TriedLaws.{below_or_not, equal_or_not}
use Rattle.theory.proofs.WalkLaws.{going_not_out, at_bound_not_out, on_or_ended}
use Rattle.theory.specs.Search.{Answer, fresh, outcome_of, conclude, too_narrow, at_once, search_walk, search, tree_steps, unlimited, steps_needed, settled}
use Rattle.theory.proofs.SearchLaws.{search_too_narrow, search_walks, search_steps, search_same}

module _ (P : Problem) (bound limit : ℕ) where
  -- a tally that has not run out of steps, and counts at most so many
  Lasted : ℕ → Tally → Type 0
  Lasted most u = (u.course ≡ out_of_steps → ⊥) × (u.steps ≤ most)

  -- a level of the walk does not run out where the limit has room for its whole tree
  Lasts : ℕ → Type 0
  Lasts n =
      (rows : List Row) (path left : List ℕ) (t : Tally) → t.course ≡ going → length left ≡ n → t.steps + tree_steps n ≤ limit →
      Lasted (t.steps + tree_steps n) (walk P limit bound n rows path left t)

  -- more steps may be counted
  lasted_more : (most more : ℕ) (u : Tally) → Lasted most u → most ≤ more → Lasted more u
  unfolding Lasted
  lasted_more most more u lasted h = (lasted.0, omega (arith, lasted.1))

  -- completing an order takes no step
  complete_lasts : (rows : List Row) (path : List ℕ) (t : Tally) → t.course ≡ going → Lasted t.steps (complete P limit bound rows path t)
  unfolding Lasted improved equalled
  complete_lasts rows path t on =
      ⊎_elim
      (λ (below : top P rows < t.mark).
      ⊎_elim
      (λ (e : top P rows ≡ bound).
      subst (Lasted t.steps) (sym (complete_at_bound P limit bound rows path t below e)) (λ out. at_bound_not_out out, omega arith))
      (λ (e : top P rows ≡ bound → ⊥).
      subst (Lasted t.steps) (sym (complete_above_bound P limit bound rows path t below e)) (λ out. going_not_out (sym on ∙ out), omega arith))
      (equal_or_not (top P rows) bound))
      (λ (not-below : t.mark ≤ top P rows).
      subst (Lasted t.steps) (sym (complete_equalled P limit bound rows path t not-below)) (λ out. going_not_out (sym on ∙ out), omega arith))
      (below_or_not (top P rows) t.mark)

  -- judging does not run out, if the level below does not
  judge_lasts : (n : ℕ) → Lasts n → (rows : List Row) (path left : List ℕ) (t : Tally) → t.course ≡ going → length left ≡ n →
      t.steps + tree_steps n ≤ limit →
      Lasted (t.steps + tree_steps n) (judge P limit bound (walk P limit bound n) n rows path left t)
  unfolding judge Lasts Lasted leave
  judge_lasts zero lasts rows path left t on sized room =
      lasted_more t.steps (t.steps + tree_steps zero) (complete P limit bound rows path t) (complete_lasts rows path t on) (omega arith)
  judge_lasts (suc n) lasts rows path left t on sized room =
      let down : List Row → List ℕ → List ℕ → Tally → Tally = walk P limit bound (suc n) in
      let most : ℕ = t.steps + tree_steps (suc n) in
      ⊎_elim
      (λ (below : top P rows < t.mark).
      subst (Lasted most) (sym (judge_deeper P limit bound down n rows path left t below)) (lasts rows path left t on sized room))
      (λ (not-below : t.mark ≤ top P rows).
      subst (Lasted most) (sym (judge_left P limit bound down n rows path left t not-below)) (λ out. going_not_out (sym on ∙ out), omega arith))
      (below_or_not (top P rows) t.mark)

  -- a step and what is below it do not run out, if the level below does not
  step_lasts : (n : ℕ) → Lasts n → (rows : List Row) (path : List ℕ) (i : ℕ) (left : List ℕ) (t : Tally) → t.course ≡ going →
      length left ≡ n → t.steps + (1 + tree_steps n) ≤ limit →
      Lasted (t.steps + (1 + tree_steps n)) (step P limit bound (walk P limit bound n) n rows path i left t)
  unfolding stepped
  step_lasts n lasts rows path i left t on sized room =
      let judged : Tally = judge P limit bound (walk P limit bound n) n (place P rows i) (path ++ (i ∷ [])) left (stepped t) in
      subst (Lasted (t.steps + (1 + tree_steps n)))
      (sym (step_taken P limit bound (walk P limit bound n) n rows path i left t (omega arith)))
      (lasted_more (t.steps + 1 + tree_steps n) (t.steps + (1 + tree_steps n)) judged
      (judge_lasts n lasts (place P rows i) (path ++ (i ∷ [])) left (stepped t) on sized (omega arith))
      (omega arith))

  -- the siblings do not run out where the limit has room for all their trees, if the level below does not
  siblings_lasts : (n : ℕ) → Lasts n → (rows : List Row) (path before after : List ℕ) (t : Tally) → t.course ≡ going →
      length before + length after ≡ suc n → t.steps + length after * (1 + tree_steps n) ≤ limit →
      Lasted (t.steps + length after * (1 + tree_steps n)) (siblings P limit bound (walk P limit bound n) n rows path before after t)
  unfolding Lasted siblings
  siblings_lasts n lasts rows path before [] t on sized room = (λ out. going_not_out (sym on ∙ out), omega (arith, zero-mul (1 + tree_steps n)))
  siblings_lasts n lasts rows path before (i ∷ after) t on sized room =
      let others : length (before ++ after) ≡ n = simp length-append (omega arith) in
      let moved : length (before ++ (i ∷ [])) + length after ≡ suc n = simp length-append (omega arith) in
      let rest : ℕ = length after * (1 + tree_steps n) in
      let most : ℕ = t.steps + length (i ∷ after) * (1 + tree_steps n) in
      let shared : length (i ∷ after) * (1 + tree_steps n) ≡ rest + (1 + tree_steps n) = suc-mul (length after) (1 + tree_steps n) in
      let stood : Tally = step P limit bound (walk P limit bound n) n rows path i (before ++ after) t in
      let here : Lasted (t.steps + (1 + tree_steps n)) stood = step_lasts n lasts rows path i (before ++ after) t on others (omega (arith, shared, room)) in
      ⊎_elim
      (λ (still : (stood.course ≡ going) × (goes_on stood.course ≡ true)).
      let later : Tally = siblings P limit bound (walk P limit bound n) n rows path (before ++ (i ∷ [])) after stood in
      subst (Lasted most) (sym (siblings_on P limit bound (walk P limit bound n) n rows path before i after t still.1))
      (lasted_more (stood.steps + rest) most later
      (siblings_lasts n lasts rows path (before ++ (i ∷ [])) after stood still.0 moved (omega (arith, shared, room, here.1)))
      (omega (arith, shared, here.1))))
      (λ (ended : (stood.course ≡ going → ⊥) × (goes_on stood.course ≡ false)).
      subst (Lasted most) (sym (siblings_stop P limit bound (walk P limit bound n) n rows path before i after t ended.1))
      (lasted_more (t.steps + (1 + tree_steps n)) most stood here (omega (arith, shared))))
      (on_or_ended stood.course)

  -- a walk takes no more steps than its whole tree has, and where the limit has room for these it does not run out
  pub walk_lasts : (n : ℕ) (rows : List Row) (path left : List ℕ) (t : Tally) → t.course ≡ going → length left ≡ n →
      t.steps + tree_steps n ≤ limit →
      ((walk P limit bound n rows path left t).course ≡ out_of_steps → ⊥) ×
      ((walk P limit bound n rows path left t).steps ≤ t.steps + tree_steps n)
  unfolding walk Lasted Lasts tree_steps
  walk_lasts zero rows path left t on sized room =
      lasted_more t.steps (t.steps + tree_steps zero) (complete P limit bound rows path t) (complete_lasts rows path t on) (omega arith)
  walk_lasts (suc n) rows path left t on sized room =
      subst (λ (k : ℕ). Lasted (t.steps + k * (1 + tree_steps n)) (siblings P limit bound (walk P limit bound n) n rows path [] left t)) sized
      (siblings_lasts n (walk_lasts n) rows path [] left t on (omega arith)
      (subst (λ (k : ℕ). t.steps + k * (1 + tree_steps n) ≤ limit) (sym sized) room))

-- a tree over more demands has no fewer steps
pub tree_rises : (m n : ℕ) → m ≤ n → tree_steps m ≤ tree_steps n
unfolding tree_steps
tree_rises m zero h = let e : m ≡ zero = omega arith in subst (λ (k : ℕ). tree_steps k ≤ tree_steps zero) (sym e) (omega arith)
tree_rises m (suc n) h =
    ⊎_elim
    (λ (below : m < suc n). omega (arith, tree_rises m n (omega arith), suc-mul n (1 + tree_steps n)))
    (λ (above : suc n ≤ m).
    let e : m ≡ suc n = omega arith in subst (λ (k : ℕ). tree_steps k ≤ tree_steps (suc n)) (sym e) (omega arith))
    (below_or_not m (suc n))

-- a walk that did not run out of steps settles the question
not_out_settled : (c : Course) (b : Best) (m : ℕ) → (c ≡ out_of_steps → ⊥) → settled (outcome_of c b m) ≡ true
unfolding settled outcome_of
not_out_settled going none_met m h = refl
not_out_settled going (met rows order) m h = refl
not_out_settled at_bound none_met m h = refl
not_out_settled at_bound (met rows order) m h = refl
not_out_settled out_of_steps b m h = absurd (h refl)

-- the walk's answer settles the question under a limit that has room for the whole tree
search_walk_settles : (P : Problem) (S bound limit : ℕ) (rows : List Row) (todo : List ℕ) → tree_steps (length todo) ≤ limit →
    settled (search_walk P S bound limit rows todo).outcome ≡ true
unfolding search_walk at_once conclude fresh settled
search_walk_settles P S bound limit rows [] room = refl
search_walk_settles P S bound limit rows (i ∷ todo) room =
    let u : Tally = walk P limit bound (suc (length todo)) rows [] (i ∷ todo) (fresh (S + 1)) in
    not_out_settled u.course u.best u.mark
    (walk_lasts P bound limit (suc (length todo)) rows [] (i ∷ todo) (fresh (S + 1)) refl refl (omega arith)).0

-- a limit that has room for the whole tree settles the question
pub tree_settles : (P : Problem) (S bound limit : ℕ) (rows : List Row) (todo : List ℕ) → tree_steps (length todo) ≤ limit →
    settled (search P S bound limit rows todo).outcome ≡ true
unfolding too_narrow settled
tree_settles P S bound limit rows todo room =
    let settling : Answer → Type 0 = λ (a : Answer). settled a.outcome ≡ true in
    ⊎_elim
    (λ (above : S < bound). subst settling (sym (search_too_narrow P S bound limit rows todo above)) refl)
    (λ (within : bound ≤ S).
    subst settling (sym (search_walks P S bound limit rows todo within)) (search_walk_settles P S bound limit rows todo room))
    (below_or_not S bound)

module _ (P : Problem) (S bound : ℕ) (rows : List Row) (todo : List ℕ) where
  -- without a limit the question is settled
  pub unlimited_settles : settled (unlimited P S bound rows todo).outcome ≡ true
  unfolding unlimited
  unlimited_settles = tree_settles P S bound (tree_steps (length todo)) rows todo (omega arith)

  -- no more steps are needed than the whole tree has
  pub needed_within_tree : steps_needed P S bound rows todo ≤ tree_steps (length todo)
  unfolding steps_needed unlimited
  needed_within_tree = search_steps P S bound (tree_steps (length todo)) rows todo

  -- a limit of at least the steps needed stops nothing: the answer is the one without a limit
  pub enough_unlimited : (limit : ℕ) → steps_needed P S bound rows todo ≤ limit →
      search P S bound limit rows todo ≡ unlimited P S bound rows todo
  unfolding steps_needed unlimited
  enough_unlimited limit enough = search_same P S bound (tree_steps (length todo)) limit rows todo unlimited_settles enough

  -- an answer that settles the question is the one without a limit
  pub settled_unlimited : (limit : ℕ) → settled (search P S bound limit rows todo).outcome ≡ true →
      search P S bound limit rows todo ≡ unlimited P S bound rows todo
  settled_unlimited limit h =
      let needed : ℕ = steps_needed P S bound rows todo in
      sym (search_same P S bound limit (limit + needed) rows todo h (omega (arith, search_steps P S bound limit rows todo)))
      ∙ enough_unlimited (limit + needed) (omega arith)

  -- the question is settled where the limit has room for the steps needed
  pub enough_settles : (limit : ℕ) → steps_needed P S bound rows todo ≤ limit → settled (search P S bound limit rows todo).outcome ≡ true
  enough_settles limit enough =
      subst (λ (a : Answer). settled a.outcome ≡ true) (sym (enough_unlimited limit enough)) unlimited_settles

  -- an answer that settles it took exactly the steps needed
  pub settled_needed : (limit : ℕ) → settled (search P S bound limit rows todo).outcome ≡ true →
      (search P S bound limit rows todo).steps ≡ steps_needed P S bound rows todo
  unfolding steps_needed
  settled_needed limit h = ap (λ (a : Answer). a.steps) (settled_unlimited limit h)

  -- and only there
  pub settled_enough : (limit : ℕ) → settled (search P S bound limit rows todo).outcome ≡ true → steps_needed P S bound rows todo ≤ limit
  settled_enough limit h = omega (arith, settled_needed limit h, search_steps P S bound limit rows todo)
