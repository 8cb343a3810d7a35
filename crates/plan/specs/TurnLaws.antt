-- The checks of starts and the plan's end, listing position by listing position.
use Rattle.refusal.specs.declared.Refusal.{Refusal}
use Prim.Native.Nat.{ℕ, suc, ◌+◌, ◌-◌, ◌≤◌, ◌<◌, max}
use Rattle.std.specs.Prelude.{Bool, true, false, not, cond, ◌&&◌, List, [], ◌≡◌, get_or, Result, Ok, Err}
use Rattle.std.proofs.Math.Path.{refl, sym, ap, subst}
use Rattle.std.proofs.Common.{◌∙◌, ltb-true, lt-ltb, le-leb}
use native.Mathlib.Omega.{arith}
use Rattle.std.proofs.Math.Numerals.{add-one}
use Rattle.std.proofs.Math.Dec.{ltb}
use Rattle.std.proofs.lemmas.Bool.{lt-leb}
use Rattle.refusal.specs.declared.Refusal.TheVariants.{EndAbove, Clash}
use Rattle.grid.specs.Grid.{end_within}
use Rattle.theory.specs.Problem.{Problem, end_of, apart, fits, top, plan_end}
use Rattle.theory.specs.Orders.{count_up}
use Rattle.theory.proofs.ApartLaws.{clash_facts, clash_from}
use Rattle.theory.proofs.TestLaws.{by_test, not_false_true, not_both, and_first, and_second, and_both}
use Rattle.request.specs.Check.{then, must}
use Rattle.meeting.specs.declared.Compact.{Compact}
use Rattle.meeting.specs.Compact.{share_bit}
use Rattle.meeting.specs.inner.Small.{problem_in}
use Rattle.meeting.specs.Plan.{start_at}
use Rattle.plan.specs.CheckStarts.{check_clash}
use Rattle.plan.specs.inner.Rows.{rows_before, too_close, ends_from, clashes_from}

-- at a position before the last there is one more to look at
one_more : (n k : ℕ) → k < n → n - k ≡ suc (n - (k + 1))
one_more n k h = omega arith

-- at the last there is none
no_more : (n k : ℕ) → n ≤ k → n - k ≡ 0
no_more n k h = omega arith

module _ (P : Problem) (S : ℕ) (starts : List ℕ) (n k : ℕ) where
  -- what 17 says of a demand
  abbrev ends_here : Bool → Result Unit Refusal
  ends_here b = then (must b (EndAbove k)) (ends_from P S starts (k + 1) (n - (k + 1)))

  -- 17 from a position on: at the demand there, then behind it
  ends_turn : k < n → ends_from P S starts k (n - k) ≡ ends_here (end_within S (start_at starts k) (P.width k))
  unfolding ends_from
  ends_turn h = ap (ends_from P S starts k) (one_more n k h)

  -- an end within the band passes, and the next is looked at
  pub end_passes : k < n → start_at starts k + P.width k ≤ S → ends_from P S starts k (n - k) ≡ ends_from P S starts (k + 1) (n - (k + 1))
  unfolding then must
  end_passes h within = ends_turn h ∙ ap ends_here (le-leb (start_at starts k + P.width k) S within)

  -- an end above it is refused with 17
  pub end_refused : k < n → S < start_at starts k + P.width k → ends_from P S starts k (n - k) ≡ Err (EndAbove k)
  unfolding then must
  end_refused h above = ends_turn h ∙ ap ends_here (lt-leb (start_at starts k + P.width k) S above)

  -- behind the last demand all ends have passed
  pub ends_done : n ≤ k → ends_from P S starts k (n - k) ≡ Ok tt
  unfolding ends_from
  ends_done h = ap (ends_from P S starts k) (no_more n k h)

module _ (P : Problem) (starts : List ℕ) (n k : ℕ) where
  -- what 18 says of a demand
  abbrev clear_here : Bool → Result Unit Refusal
  clear_here b = then (cond b (Ok tt) (Err (Clash k))) (clashes_from P starts (k + 1) (n - (k + 1)))

  -- 18 from a position on: at the demand there, then behind it
  clashes_turn : k < n → clashes_from P starts k (n - k) ≡ clear_here (fits P (rows_before starts k) k (start_at starts k))
  unfolding clashes_from check_clash
  clashes_turn h = ap (clashes_from P starts k) (one_more n k h)

  -- a demand clear of all before it passes, and the next is looked at
  pub clear_passes : k < n → fits P (rows_before starts k) k (start_at starts k) ≡ true →
      clashes_from P starts k (n - k) ≡ clashes_from P starts (k + 1) (n - (k + 1))
  unfolding then
  clear_passes h clear = clashes_turn h ∙ ap clear_here clear

  -- a demand that clashes with one before it is refused with 18
  pub clash_refused : k < n → fits P (rows_before starts k) k (start_at starts k) ≡ false →
      clashes_from P starts k (n - k) ≡ Err (Clash k)
  unfolding then
  clash_refused h clash = clashes_turn h ∙ ap clear_here clash

  -- behind the last demand none has clashed
  pub clashes_done : n ≤ k → clashes_from P starts k (n - k) ≡ Ok tt
  unfolding clashes_from
  clashes_done h = ap (clashes_from P starts k) (no_more n k h)

module _ (P : Problem) (starts : List ℕ) (j i s : ℕ) (some : 0 < j) where
  -- the rows before a position, from the last down: the last one, then those before it
  row_turn : fits P (rows_before starts j) i s ≡ (apart P (j - 1) (start_at starts (j - 1)) i s && fits P (rows_before starts (j - 1)) i s)
  unfolding fits rows_before
  row_turn =
      let next : suc (j - 1) ≡ j = omega arith in
      subst (λ (n : ℕ). fits P (rows_before starts n) i s ≡ (apart P (j - 1) (start_at starts (j - 1)) i s && fits P (rows_before starts (j - 1)) i s)) next refl

  -- a demand that clashes with the last row does not fit
  pub row_clash : apart P (j - 1) (start_at starts (j - 1)) i s ≡ false → fits P (rows_before starts j) i s ≡ false
  row_clash clash = row_turn ∙ ap (λ (b : Bool). b && fits P (rows_before starts (j - 1)) i s) clash

  -- a demand apart from the last row fits where it fits the rows before that
  pub row_clear : apart P (j - 1) (start_at starts (j - 1)) i s ≡ true → fits P (rows_before starts j) i s ≡ fits P (rows_before starts (j - 1)) i s
  row_clear clear = row_turn ∙ ap (λ (b : Bool). b && fits P (rows_before starts (j - 1)) i s) clear

-- no row stands before the first position
pub row_none : (P : Problem) (starts : List ℕ) (i s : ℕ) → fits P (rows_before starts 0) i s ≡ true
unfolding fits rows_before
row_none P starts i s = refl

module _ (P : Problem) (plan : ℕ → ℕ) (n k : ℕ) where
  -- the end from a position on: the larger of the demand's there and of those behind it
  pub end_turn : k < n →
      plan_end P [] (count_up (n - k) k) plan ≡ max (plan k + P.width k) (plan_end P [] (count_up (n - (k + 1)) (k + 1)) plan)
  unfolding plan_end count_up end_of
  end_turn h = rw (one_more n k h, add-one k)

  -- behind the last demand there is no end
  pub end_done : n ≤ k → plan_end P [] (count_up (n - k) k) plan ≡ 0
  unfolding plan_end count_up top
  end_done h = rw (no_more n k h)

module _ (c : Compact) (i s j t : ℕ) where
  -- where two demands end, the guard included, and whether they share a link
  abbrev end : ℕ
  end = s + get_or c.widths i 0 + c.guard

  abbrev other : ℕ
  other = t + get_or c.widths j 0 + c.guard

  abbrev share : Bool
  share = share_bit (get_or c.words i 0) (get_or c.words j 0)

  -- two demands that stand too close and share a link clash
  pub close_clash : too_close c.guard s (get_or c.widths i 0) t (get_or c.widths j 0) && share ≡ true → apart (problem_in c) i s j t ≡ false
  unfolding too_close problem_in end_of
  close_clash h =
      let near = and_first (ltb t end && ltb s other) share h in
      clash_from (problem_in c) i s j t
      (and_second (ltb t end && ltb s other) share h)
      (ltb-true t end (and_first (ltb t end) (ltb s other) near))
      (ltb-true s other (and_second (ltb t end) (ltb s other) near))

  -- two demands of which this is not so are apart
  pub not_close_apart : too_close c.guard s (get_or c.widths i 0) t (get_or c.widths j 0) && share ≡ false → apart (problem_in c) i s j t ≡ true
  unfolding too_close problem_in end_of
  not_close_apart h =
      not_false_true (apart (problem_in c) i s j t)
      (λ clash.
      let facts = clash_facts (problem_in c) i s j t clash in
      not_both {C = ⊥} ((ltb t end && ltb s other) && share)
      (and_both (ltb t end && ltb s other) share (and_both (ltb t end) (ltb s other) (lt-ltb t end facts.1) (lt-ltb s other facts.2)) facts.0) h)

  -- so that is when they clash
  pub clash_is : (too_close c.guard s (get_or c.widths i 0) t (get_or c.widths j 0) && share) ≡ not (apart (problem_in c) i s j t)
  clash_is =
      by_test (too_close c.guard s (get_or c.widths i 0) t (get_or c.widths j 0) && share)
      (λ close. close ∙ sym (ap not (close_clash close)))
      (λ clear. clear ∙ sym (ap not (not_close_apart clear)))
