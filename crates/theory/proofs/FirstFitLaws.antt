-- First fit inside a band: when it places all, when it refuses, and that no allowed plan does better than some order of it.
use Rattle.std.specs.Prelude.{ℕ, ◌≤◌, ◌<◌, Bool, true, List, [], ◌∷◌, ◌++◌, ◌≡◌, leb}
use Rattle.std.proofs.Math.Bool.{cond}
use Rattle.std.proofs.Math.Path.{refl, ap}
use Rattle.std.proofs.Common.{sym, ◌∙◌, arith, leb-true, leb-false, le-leb}
use Rattle.std.proofs.lemmas.Bool.{lt-leb}
use Rattle.theory.specs.Problem.{Problem, Row, end_of, fits, lowest, place, fill, top, placed, refused, first_fit}
use Rattle.theory.proofs.TestLaws.{by_test}
use Rattle.theory.proofs.ProblemLaws.{end_rises, lowest_least, fill_nil, fill_cons, top_fill, top_place}

module _ (P : Problem) (S : ℕ) where
  -- with nothing to place the rows stay
  pub first_fit-nil : (rows : List Row) → first_fit P S rows [] ≡ placed rows
  unfolding first_fit
  first_fit-nil rows = refl

  -- a demand whose lowest start ends above S is refused
  pub first_fit_refuses : (rows : List Row) (i : ℕ) (order : List ℕ) → S < end_of P i (lowest P rows i) →
      first_fit P S rows (i ∷ order) ≡ refused rows i
  unfolding first_fit
  first_fit_refuses rows i order h =
      ap (λ (b : Bool). cond b (first_fit P S (place P rows i) order) (refused rows i)) (lt-leb (end_of P i (lowest P rows i)) S h)

  -- a demand whose lowest start ends within S is placed there, and first fit goes on
  pub first_fit_on : (rows : List Row) (i : ℕ) (order : List ℕ) → end_of P i (lowest P rows i) ≤ S →
      first_fit P S rows (i ∷ order) ≡ first_fit P S (place P rows i) order
  unfolding first_fit
  first_fit_on rows i order h = rw (le-leb (end_of P i (lowest P rows i)) S h)

  -- where the lowest start ends above S, no start that fits ends within S
  pub none_fits : (rows : List Row) (i : ℕ) → S < end_of P i (lowest P rows i) →
      (s : ℕ) → fits P rows i s ≡ true → end_of P i s ≤ S → ⊥
  none_fits rows i h s f k = omega (arith, end_rises P i (lowest P rows i) s (lowest_least P rows i s f))

  -- if first fit places all, the first demand's lowest start ends within S, and the rest is placed over it
  pub placed_first : (rows : List Row) (i : ℕ) (order : List ℕ) (out : List Row) → first_fit P S rows (i ∷ order) ≡ placed out →
      (end_of P i (lowest P rows i) ≤ S) × (first_fit P S (place P rows i) order ≡ placed out)
  placed_first rows i order out e =
      by_test (leb (end_of P i (lowest P rows i)) S)
      (λ l.
      let h : end_of P i (lowest P rows i) ≤ S = leb-true (end_of P i (lowest P rows i)) S l in
      (h, sym (first_fit_on rows i order h) ∙ e))
      (λ g.
      let f = first_fit_refuses rows i order (leb-false (end_of P i (lowest P rows i)) S g) in
      absurd (let z : ◌≡◌ {A = ℕ} 0 1 = cc in omega arith))

  -- first fit along two orders in a row, the first of which it places
  pub first_fit-append : (rows : List Row) (front back : List ℕ) (out : List Row) → first_fit P S rows front ≡ placed out →
      first_fit P S rows (front ++ back) ≡ first_fit P S out back
  first_fit-append rows [] back out e =
      let same : rows ≡ out = cc (first_fit-nil rows) in
      ap (λ (r : List Row). first_fit P S r back) same
  first_fit-append rows (i ∷ front) back out e =
      let (h, k) = placed_first rows i front out e in
      first_fit_on rows i (front ++ back) h ∙ first_fit-append (place P rows i) front back out k

  -- what first fit places is what it places without a limit
  pub placed_fill : (rows : List Row) (order : List ℕ) (out : List Row) → first_fit P S rows order ≡ placed out →
      out ≡ fill P rows order
  placed_fill rows [] out e = cc (first_fit-nil rows, fill_nil P rows)
  placed_fill rows (i ∷ order) out e =
      rw fill_cons (placed_fill (place P rows i) order out (placed_first rows i order out e).1)

  -- if first fit places all, each demand's lowest start over those before it ends within S
  pub placed_each : (rows : List Row) (before : List ℕ) (i : ℕ) (after : List ℕ) (out : List Row) →
      first_fit P S rows (before ++ (i ∷ after)) ≡ placed out → end_of P i (lowest P (fill P rows before) i) ≤ S
  placed_each rows [] i after out e = rw fill_nil (placed_first rows i after out e).0
  placed_each rows (j ∷ before) i after out e =
      rw fill_cons (placed_each (place P rows j) before i after out (placed_first rows j (before ++ (i ∷ after)) out e).1)

  -- if each demand's lowest start over those before it ends within S, first fit places all
  pub each_placed : (rows : List Row) (order : List ℕ) →
      ((before : List ℕ) (i : ℕ) (after : List ℕ) → order ≡ before ++ (i ∷ after) →
      end_of P i (lowest P (fill P rows before) i) ≤ S) →
      first_fit P S rows order ≡ placed (fill P rows order)
  each_placed rows [] h = rw fill_nil (first_fit-nil rows)
  each_placed rows (j ∷ order) h =
      rw fill_cons
      (first_fit_on rows j order (rw (fill_nil P rows) at (h [] j order refl))
      ∙ each_placed (place P rows j) order
      (λ before i after e. rw fill_cons at (h (j ∷ before) i after (ap (λ (l : List ℕ). j ∷ l) e))))

  -- if the top of the fill is within S, first fit places all
  pub top_placed : (rows : List Row) (order : List ℕ) → top P (fill P rows order) ≤ S →
      first_fit P S rows order ≡ placed (fill P rows order)
  top_placed rows [] h = rw fill_nil (first_fit-nil rows)
  top_placed rows (i ∷ order) h =
      let k : top P (fill P (place P rows i) order) ≤ S = rw fill_cons at h in
      rw fill_cons
      (first_fit_on rows i order (omega (arith, top_fill P (place P rows i) order, top_place P rows i))
      ∙ top_placed (place P rows i) order k)

  -- if first fit places all over rows within S, the top is within S
  pub placed_top : (rows : List Row) (order : List ℕ) (out : List Row) → top P rows ≤ S →
      first_fit P S rows order ≡ placed out → top P (fill P rows order) ≤ S
  placed_top rows [] out h e = rw fill_nil h
  placed_top rows (i ∷ order) out h e =
      let (k, rest) = placed_first rows i order out e in
      rw fill_cons (placed_top (place P rows i) order out (omega (arith, top_place P rows i)) rest)

  -- a demand is refused where those before it are placed and its lowest start ends above S
  pub refuses_at : (rows : List Row) (before : List ℕ) (i : ℕ) (after : List ℕ) →
      first_fit P S rows before ≡ placed (fill P rows before) → S < end_of P i (lowest P (fill P rows before) i) →
      first_fit P S rows (before ++ (i ∷ after)) ≡ refused (fill P rows before) i
  refuses_at rows before i after e h =
      first_fit-append rows before (i ∷ after) (fill P rows before) e ∙ first_fit_refuses (fill P rows before) i after h

  -- a refused demand stands in the order behind others that are all placed, and its lowest start ends above S
  pub refused_at : (rows : List Row) (order : List ℕ) (so_far : List Row) (i : ℕ) → first_fit P S rows order ≡ refused so_far i →
      (before : List ℕ)
      × (after : List ℕ)
      × (order ≡ before ++ (i ∷ after))
      × (so_far ≡ fill P rows before)
      × (first_fit P S rows before ≡ placed (fill P rows before))
      × (S < end_of P i (lowest P (fill P rows before) i))
  refused_at rows [] so_far i e = let f = first_fit-nil rows in absurd (let z : ◌≡◌ {A = ℕ} 0 1 = cc in omega arith)
  refused_at rows (j ∷ order) so_far i e =
      by_test (leb (end_of P j (lowest P rows j)) S)
      (λ l.
      let h : end_of P j (lowest P rows j) ≤ S = leb-true (end_of P j (lowest P rows j)) S l in
      let (before, after, split, rows_are, fine, above) = refused_at (place P rows j) order so_far i (sym (first_fit_on rows j order h) ∙ e) in (
        j ∷ before,
        after,
        ap (λ (o : List ℕ). j ∷ o) split,
        rw fill_cons rows_are,
        rw fill_cons (first_fit_on rows j before h ∙ fine),
        rw fill_cons above,
      ))
      (λ g.
      let above : S < end_of P j (lowest P rows j) = leb-false (end_of P j (lowest P rows j)) S g in
      let f = first_fit_refuses rows j order above in
      let same : j ≡ i = cc in
      let kept : rows ≡ so_far = cc in
      ([], order, ap (λ (k : ℕ). k ∷ order) same, rw fill_nil (sym kept), rw fill_nil (first_fit-nil rows), rw (fill_nil, ← same) above))

  -- where first fit refuses a demand, no start at which it clashes with nothing placed so far ends within S
  pub refused_none : (rows : List Row) (order : List ℕ) (so_far : List Row) (i : ℕ) → first_fit P S rows order ≡ refused so_far i →
      (before : List ℕ)
      × (after : List ℕ)
      × (order ≡ before ++ (i ∷ after))
      × ((s : ℕ) → fits P (fill P rows before) i s ≡ true → end_of P i s ≤ S → ⊥)
  refused_none rows order so_far i e =
      let (before, after, split, rows_are, fine, above) = refused_at rows order so_far i e in
      (before, after, split, none_fits (fill P rows before) i above)
