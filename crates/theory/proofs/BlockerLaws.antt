-- The blocker is the lowest number that clashes; every start above 0 has one, and it ends a gap below that start.
use Prim.Native.Nat.{ℕ, zero, suc, ◌+◌, ◌≤◌, ◌<◌}
use Rattle.std.specs.Prelude.{true, false, ◌⊎◌, ◌≡◌, leb}
use mathlib.Core.List.Memᴰ
use mathlib.Core.List.{List, [], ◌∷◌, ◌++◌, Memᴰ}
use Rattle.std.proofs.Common.{inl, inr, sym, ◌∙◌, arith}
use Rattle.std.proofs.Math.Logic.{⊎_elim}
use Rattle.std.proofs.Math.Path.{refl, ap}
use borrow.Author.Tests.{leb-true, leb-false, eq-eqb, ne_eqb}
use Rattle.theory.specs.Problem.{Problem, Row, end_of, apart, fits, lowest, place, fill}
use Rattle.theory.specs.Blocker.{Blocker, nobody, blocked_by, lower_of, blocker_at, blocker_below, blocker_in}
use Rattle.theory.proofs.TestLaws.{by_test, not_both, not_true_false, not_false_true}
use Rattle.theory.proofs.ApartLaws.{clash_facts}
use Rattle.theory.proofs.ProblemLaws.{fits_apart, apart_fits, lowest_fits, lowest_least, clash_jumps, place_is, fill_nil, fill_cons, fill_append}
use Rattle.theory.specs.inner.Clashes.{ClashAt, Named, SameClashes}

module _ (P : Problem) where
  -- a row that clashes does so among more rows
  clash_tail : (r : Row) (rows : List Row) (i s b : ℕ) → ClashAt P rows i s b → ClashAt P (r ∷ rows) i s b
  clash_tail r rows i s b c =
      record { row = c.row; stands = Memᴰ.tail c.stands; number = c.number; clash = c.clash }

  -- who clashes is the first row, or one of the others
  clash_cases : (r : Row) (rows : List Row) (i s b : ℕ) → ClashAt P (r ∷ rows) i s b →
      ((r.who ≡ b) × (apart P r.who r.at i s ≡ false)) ⊎ ClashAt P rows i s b
  clash_cases r rows i s b c =
      ⊎_elim
      (λ (e : c.row ≡ r).
      inl (sym (ap (λ (q : Row). q.who) e) ∙ c.number, sym (ap (λ (q : Row). apart P q.who q.at i s) e) ∙ c.clash))
      (λ (m : Memᴰ c.row rows). inr (record { row = c.row; stands = m; number = c.number; clash = c.clash }))
      (Memᴰ.cases_cons c.stands)

  -- the first row clashes
  clash_head : (r : Row) (rows : List Row) (i s : ℕ) → apart P r.who r.at i s ≡ false → ClashAt P (r ∷ rows) i s r.who
  clash_head r rows i s f = record { row = r; stands = Memᴰ.head refl; number = refl; clash = f }

  -- a first row that is apart changes nothing
  named_apart : (r : Row) (rows : List Row) (i s : ℕ) (x : Blocker) → apart P r.who r.at i s ≡ true →
      Named P rows i s x → Named P (r ∷ rows) i s x
  unfolding Named
  named_apart r rows i s nobody a none =
      λ b c.
      ⊎_elim (λ h. not_both (apart P r.who r.at i s) a h.1) (none b) (clash_cases r rows i s b c)
  named_apart r rows i s (blocked_by b) a (c, least) = (
    clash_tail r rows i s b c,
    λ d e. ⊎_elim (λ h. not_both (apart P r.who r.at i s) a h.1) (least d) (clash_cases r rows i s d e),
  )

  -- a first row that clashes is named where it is the lower
  named_clash : (r : Row) (rows : List Row) (i s : ℕ) (x : Blocker) → apart P r.who r.at i s ≡ false →
      Named P rows i s x → Named P (r ∷ rows) i s (lower_of r.who x)
  unfolding Named lower_of
  named_clash r rows i s nobody f none = (
    clash_head r rows i s f,
    λ d e. ⊎_elim (λ h. omega (arith, h.0)) (λ c. absurd (none d c)) (clash_cases r rows i s d e),
  )
  named_clash r rows i s (blocked_by b) f (c, least) =
      by_test (leb r.who b)
      (λ t.
      rw t (
        clash_head r rows i s f,
        λ d e.
            ⊎_elim (λ h. omega (arith, h.0)) (λ c. omega (arith, leb-true r.who b t, least d c)) (clash_cases r rows i s d e),
      ))
      (λ t.
      rw t (
        clash_tail r rows i s b c,
        λ d e.
            ⊎_elim (λ h. omega (arith, leb-false r.who b t, h.0)) (least d) (clash_cases r rows i s d e),
      ))

  -- no row, nobody
  named_nil : (i s : ℕ) → Named P [] i s nobody
  unfolding Named
  named_nil i s = λ b c. Memᴰ.not-nil c.stands

  -- the blocker at a start is the lowest number that clashes there
  pub blocker_named : (rows : List Row) (i s : ℕ) → Named P rows i s (blocker_at P rows i s)
  unfolding blocker_at
  blocker_named [] i s = named_nil i s
  blocker_named (r ∷ rows) i s =
      by_test (apart P r.who r.at i s)
      (λ t. rw t (named_apart r rows i s (blocker_at P rows i s) t (blocker_named rows i s)))
      (λ f. rw f (named_clash r rows i s (blocker_at P rows i s) f (blocker_named rows i s)))

  -- there is one lowest number
  pub named_same : (rows : List Row) (i s : ℕ) (x y : Blocker) → Named P rows i s x → Named P rows i s y → x ≡ y
  unfolding Named
  named_same rows i s nobody nobody h k = refl
  named_same rows i s nobody (blocked_by b) none (c, least) = absurd (none b c)
  named_same rows i s (blocked_by b) nobody (c, least) none = absurd (none b c)
  named_same rows i s (blocked_by b) (blocked_by d) (c, least) (e, least') =
      ap blocked_by (omega (arith, least d e, least' b c))

  -- what is the lowest number that clashes is the blocker
  pub named_blocker : (rows : List Row) (i s : ℕ) (x : Blocker) → Named P rows i s x → x ≡ blocker_at P rows i s
  named_blocker rows i s x h = named_same rows i s x (blocker_at P rows i s) h (blocker_named rows i s)

  -- where a demand does not fit some number clashes
  pub misfit_clash : (rows : List Row) (i s : ℕ) → fits P rows i s ≡ false → (b : ℕ) × ClashAt P rows i s b
  unfolding Named
  misfit_clash rows i s f = from (blocker_at P rows i s) (blocker_named rows i s)
    where
      from : (x : Blocker) → Named P rows i s x → (b : ℕ) × ClashAt P rows i s b
      from nobody none =
          absurd (not_both (fits P rows i s)
          (apart_fits P rows i s
          (λ r m.
          not_false_true (apart P r.who r.at i s)
          (λ c. none r.who (record { row = r; stands = m; number = refl; clash = c }))))
          f)
      from (blocked_by b) (c, least) = (b, c)

  -- where a demand fits no number clashes
  fit_clashless : (rows : List Row) (i s b : ℕ) → fits P rows i s ≡ true → ClashAt P rows i s b → ⊥
  fit_clashless rows i s b f c =
      not_both (apart P c.row.who c.row.at i s) (fits_apart P rows i s f c.row c.stands) c.clash

  -- where a demand does not fit the blocker is a number that clashes, and none lower does
  pub misfit_blocker : (rows : List Row) (i s : ℕ) → fits P rows i s ≡ false →
      (b : ℕ) × (blocker_at P rows i s ≡ blocked_by b) × ClashAt P rows i s b × ((c : ℕ) → ClashAt P rows i s c → b ≤ c)
  unfolding Named
  misfit_blocker rows i s f = from (blocker_at P rows i s) refl (blocker_named rows i s)
    where
      from : (x : Blocker) → blocker_at P rows i s ≡ x → Named P rows i s x →
          (b : ℕ) × (blocker_at P rows i s ≡ blocked_by b) × ClashAt P rows i s b × ((c : ℕ) → ClashAt P rows i s c → b ≤ c)
      from nobody e none = let (b, c) = misfit_clash rows i s f in absurd (none b c)
      from (blocked_by b) e (c, least) = (b, e, c, least)

  -- a start one below the lowest does not fit
  pub below_misfit : (rows : List Row) (i s : ℕ) → s < lowest P rows i → fits P rows i s ≡ false
  below_misfit rows i s h = not_true_false (fits P rows i s) (λ t. omega (arith, lowest_least P rows i s t))

  -- who clashes one below the lowest start ends a gap below that start
  pub blocker_ends : (rows : List Row) (i s : ℕ) (r : Row) → Memᴰ r rows → lowest P rows i ≡ suc s →
      apart P r.who r.at i s ≡ false → end_of P r.who r.at + P.gap r.who i ≡ lowest P rows i
  blocker_ends rows i s r m e c =
      omega (arith, e, clash_jumps P rows i s r m (omega (arith, e)) c, (clash_facts P r.who r.at i s c).1)

  -- the first row gives its own demand the blocker below its start
  pub blocker_here : (i s : ℕ) (rows : List Row) → blocker_in P (record { who = i; at = s } ∷ rows) i ≡ blocker_below P rows i s
  unfolding blocker_in
  blocker_here i s rows = rw (eq-eqb i i refl)

  -- the first row says nothing of another demand's blocker
  pub blocker_other : (r : Row) (rows : List Row) (i : ℕ) → (r.who ≡ i → ⊥) → blocker_in P (r ∷ rows) i ≡ blocker_in P rows i
  unfolding blocker_in
  blocker_other r rows i h = rw (ne_eqb r.who i h)

  -- filling along an order leaves the blocker of a demand that is not in it
  blocker_kept : (rows : List Row) (order : List ℕ) (i : ℕ) → (Memᴰ i order → ⊥) →
      blocker_in P (fill P rows order) i ≡ blocker_in P rows i
  blocker_kept rows [] i h = rw fill_nil
  blocker_kept rows (j ∷ order) i h =
      rw (fill_cons, blocker_kept (place P rows j) order i (λ m. h (Memᴰ.tail m)), place_is)
      (blocker_other (record { who = j; at = lowest P rows j }) rows i (λ e. h (Memᴰ.head (sym e))))

  -- a demand of an order in which it does not come again has the blocker below its lowest start over the rows filled before it
  pub blocker_filled : (rows : List Row) (before : List ℕ) (i : ℕ) (after : List ℕ) → (Memᴰ i after → ⊥) →
      blocker_in P (fill P rows (before ++ (i ∷ after))) i
      ≡ blocker_below P (fill P rows before) i (lowest P (fill P rows before) i)
  blocker_filled rows before i after h =
      rw (fill_append P rows before (i ∷ after), fill_cons, blocker_kept (place P (fill P rows before) i) after i h, place_is)
      (blocker_here i (lowest P (fill P rows before) i) (fill P rows before))

module _ (P : Problem) (rows : List Row) (i : ℕ) (Q : Problem) (others : List Row) (j : ℕ) (same : SameClashes P rows i Q others j) where
  -- with the same clashes a demand fits at the same starts
  fits_same : (s : ℕ) → fits P rows i s ≡ fits Q others j s
  fits_same s =
      by_test (fits P rows i s)
      (λ t.
      t ∙ sym (not_false_true (fits Q others j s)
      (λ f. let (b, c) = misfit_clash Q others j s f in fit_clashless P rows i s b t (same.back s b c))))
      (λ f.
      f ∙ sym (not_true_false (fits Q others j s)
      (λ t. let (b, c) = misfit_clash P rows i s f in fit_clashless Q others j s b t (same.over s b c))))

  -- and has the same lowest start
  pub lowest_same : lowest P rows i ≡ lowest Q others j
  lowest_same =
      let h = lowest_least P rows i (lowest Q others j) (fits_same (lowest Q others j) ∙ lowest_fits Q others j) in
      let k = lowest_least Q others j (lowest P rows i) (sym (fits_same (lowest P rows i)) ∙ lowest_fits P rows i) in
      omega arith

  -- and the same blocker at each start
  pub blocker_same : (s : ℕ) → blocker_at P rows i s ≡ blocker_at Q others j s
  unfolding Named
  blocker_same s = named_blocker Q others j s (blocker_at P rows i s) (carried (blocker_at P rows i s) (blocker_named P rows i s))
    where
      carried : (x : Blocker) → Named P rows i s x → Named Q others j s x
      carried nobody none = λ b c. none b (same.back s b c)
      carried (blocked_by b) (c, least) = (same.over s b c, λ d e. least d (same.back s d e))

  -- and below it
  pub below_same : (s : ℕ) → blocker_below P rows i s ≡ blocker_below Q others j s
  unfolding blocker_below
  below_same zero = refl
  below_same (suc s) = blocker_same s
