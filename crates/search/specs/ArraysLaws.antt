-- Reading the arrays: entries of a list one by one, and rows of an order one by one.
use Prim.Native.Nat.{ℕ, zero, suc, ◌+◌, ◌≤◌, ◌<◌}
use Rattle.std.specs.Prelude.{true, List, [], ◌∷◌, ◌++◌, ◌≡◌, refl, length}
use Rattle.std.proofs.Common.{⊎_elim, sym, subst, ap, ◌∙◌, eq-or-lt_of_le, le_of_suc-le-suc, add-one, arith}
use Rattle.std.proofs.Math.ListN.{get_or}
use Rattle.theory.specs.Problem.{Problem, Row, end_of, apart, fits, top}
use Rattle.theory.proofs.ProblemLaws.{fits_nil, fits_with, fits_first, fits_rest, top_cons}
use Rattle.search.specs.inner.Arrays.{entries, rows_of}

-- what holds below a number and at it holds below the next
below_next : (Q : ℕ → Type 0) (n : ℕ) → ((q : ℕ) → q < n → Q q) → Q n → (q : ℕ) → q < suc n → Q q
below_next Q n all here q h =
    ⊎_elim (λ (e : q ≡ n). subst Q (sym e) here) (λ (l : q < n). all q l) (eq-or-lt_of_le (le_of_suc-le-suc h))

-- no entries
pub entries_none : (list : List ℕ) (from : ℕ) → entries list from 0 ≡ []
unfolding entries
entries_none list from = refl

-- the first of the entries, then the others
pub entries_first : (list : List ℕ) (from n : ℕ) → entries list from (suc n) ≡ get_or list from 0 ∷ entries list (suc from) n
unfolding entries
entries_first list from n = refl

-- entries one run after the other
pub entries_append : (list : List ℕ) (from m n : ℕ) → entries list from (m + n) ≡ entries list from m ++ entries list (from + m) n
unfolding entries
entries_append list from zero n =
    ap (λ (k : ℕ). entries list from k) (let e : 0 + n ≡ n = omega arith in e)
    ∙ ap (λ (k : ℕ). entries list k n) (let e : from ≡ from + 0 = omega arith in e)
entries_append list from (suc m) n =
    ap (λ (k : ℕ). entries list from k) (let e : suc m + n ≡ suc (m + n) = omega arith in e)
    ∙ ap (λ (l : List ℕ). get_or list from 0 ∷ l)
    (entries_append list (suc from) m n
    ∙ ap (λ (k : ℕ). entries list (suc from) m ++ entries list k n) (let e : suc from + m ≡ from + suc m = omega arith in e))

-- the entries before the last, then the last
pub entries_last : (list : List ℕ) (from n : ℕ) → entries list from (n + 1) ≡ entries list from n ++ (get_or list (from + n) 0 ∷ [])
unfolding entries
entries_last list from n = entries_append list from n 1

-- lists that agree where the entries are read have the same entries
pub entries_same : (list other : List ℕ) (from there n : ℕ) →
    ((q : ℕ) → q < n → get_or list (from + q) 0 ≡ get_or other (there + q) 0) → entries list from n ≡ entries other there n
unfolding entries
entries_same list other from there zero same = refl
entries_same list other from there (suc n) same =
    let here : get_or list from 0 ≡ get_or other there 0 =
    ap (λ (k : ℕ). get_or list k 0) (let e : from ≡ from + 0 = omega arith in e)
    ∙ same 0 (omega arith)
    ∙ ap (λ (k : ℕ). get_or other k 0) (let e : there + 0 ≡ there = omega arith in e) in
    let later : entries list (suc from) n ≡ entries other (suc there) n =
    entries_same list other (suc from) (suc there) n
    (λ q h.
    ap (λ (k : ℕ). get_or list k 0) (let e : suc from + q ≡ from + suc q = omega arith in e)
    ∙ same (suc q) (omega arith)
    ∙ ap (λ (k : ℕ). get_or other k 0) (let e : there + suc q ≡ suc there + q = omega arith in e)) in
    ap (λ (k : ℕ). k ∷ entries list (suc from) n) here ∙ ap (λ (l : List ℕ). get_or other there 0 ∷ l) later

-- there are as many entries as are read
pub entries_length : (list : List ℕ) (from n : ℕ) → length (entries list from n) ≡ n
unfolding entries
entries_length list from zero = refl
entries_length list from (suc n) = ap suc (entries_length list (suc from) n)

-- no rows
pub rows_none : (starts order : List ℕ) → rows_of starts order 0 ≡ []
unfolding rows_of
rows_none starts order = refl

-- the last row in front of the rows before it
pub rows_more : (starts order : List ℕ) (n : ℕ) →
    rows_of starts order (n + 1) ≡ record { who = get_or order n 0; at = get_or starts (get_or order n 0) 0 } ∷ rows_of starts order n
unfolding rows_of
rows_more starts order n = rw add-one

-- starts and orders that agree where the rows are read have the same rows
pub rows_same : (starts others order order' : List ℕ) (n : ℕ) → ((q : ℕ) → q < n → get_or order q 0 ≡ get_or order' q 0) →
    ((q : ℕ) → q < n → get_or starts (get_or order q 0) 0 ≡ get_or others (get_or order q 0) 0) → rows_of starts order n ≡ rows_of others order' n
unfolding rows_of
rows_same starts others order order' zero along same = refl
rows_same starts others order order' (suc n) along same =
    let who : get_or order n 0 ≡ get_or order' n 0 = along n (omega arith) in
    let at : get_or starts (get_or order n 0) 0 ≡ get_or others (get_or order' n 0) 0 =
    same n (omega arith) ∙ ap (λ (i : ℕ). get_or others i 0) who in
    let rest : rows_of starts order n ≡ rows_of others order' n =
    rows_same starts others order order' n (λ q h. along q (omega arith)) (λ q h. same q (omega arith)) in
    cc

module _ (P : Problem) (starts order : List ℕ) where
  -- what is apart from each row fits
  pub rows_fit : (i s n : ℕ) → ((q : ℕ) → q < n → apart P (get_or order q 0) (get_or starts (get_or order q 0) 0) i s ≡ true) →
      fits P (rows_of starts order n) i s ≡ true
  unfolding rows_of
  rows_fit i s zero all = fits_nil P i s
  rows_fit i s (suc n) all =
      fits_with P (record { who = get_or order n 0; at = get_or starts (get_or order n 0) 0 }) (rows_of starts order n) i s
      (all n (omega arith)) (rows_fit i s n (λ q h. all q (omega arith)))

  -- what fits is apart from each row
  pub rows_apart : (i s n : ℕ) → fits P (rows_of starts order n) i s ≡ true →
      (q : ℕ) → q < n → apart P (get_or order q 0) (get_or starts (get_or order q 0) 0) i s ≡ true
  unfolding rows_of
  rows_apart i s zero f q h = absurd (omega arith)
  rows_apart i s (suc n) f q h =
      let row : Row = record { who = get_or order n 0; at = get_or starts (get_or order n 0) 0 } in
      below_next (λ (q : ℕ). apart P (get_or order q 0) (get_or starts (get_or order q 0) 0) i s ≡ true) n
      (rows_apart i s n (fits_rest P row (rows_of starts order n) i s f))
      (fits_first P row (rows_of starts order n) i s f) q h

  -- no row ends above the top
  pub rows_end : (n q : ℕ) → q < n → end_of P (get_or order q 0) (get_or starts (get_or order q 0) 0) ≤ top P (rows_of starts order n)
  unfolding rows_of
  rows_end zero q h = absurd (omega arith)
  rows_end (suc n) q h =
      let row : Row = record { who = get_or order n 0; at = get_or starts (get_or order n 0) 0 } in
      let top_is = top_cons P row (rows_of starts order n) in
      below_next (λ (k : ℕ). end_of P (get_or order k 0) (get_or starts (get_or order k 0) 0) ≤ top P (row ∷ rows_of starts order n)) n
      (λ k l. omega (arith, rows_end n k l))
      (omega arith) q h

  -- the top only rises with one more row
  pub rows_top : (n : ℕ) → top P (rows_of starts order n) ≤ top P (rows_of starts order (n + 1))
  rows_top n =
      rw rows_more
      (omega (arith, top_cons P (record { who = get_or order n 0; at = get_or starts (get_or order n 0) 0 }) (rows_of starts order n)))
