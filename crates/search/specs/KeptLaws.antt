-- That the kept starts are the lowest ones, and how a demand that was put down moves them.
use Prim.Native.Nat.{ℕ, ◌+◌, ◌≤◌, ◌<◌}
use Rattle.std.specs.Prelude.{Bool, ◌≡◌, refl, ltb, set, length}
use Rattle.std.proofs.Math.Bool.{true, false}
use mathlib.Core.List.{List, [], ◌∷◌}
use Rattle.std.proofs.Math.Logic.{⊎_elim}
use Rattle.std.proofs.Math.Path.{sym, subst, ap}
use Rattle.std.proofs.Common.{◌∙◌, eq-or-lt_of_le, length-set, get_or-set_same, get_or-set_other}
use native.Mathlib.Omega.{arith}
use borrow.Author.Tests.{ltb-true, ltb-false}
use Rattle.std.proofs.Math.ListN.{get_or}
use Rattle.theory.specs.Problem.{Problem, Row, end_of, apart, fits, past, lowest, top}
use Rattle.theory.proofs.TestLaws.{by_test}
use Rattle.theory.proofs.ApartLaws.{unjoined_apart, before_apart, after_apart, apart_cases, clash_from}
use Rattle.theory.proofs.ProblemLaws.{lowest_fits, lowest_least, lowest_past, lowest_stays, lowest_jumps}
use Rattle.search.specs.inner.Arrays.{problem_of, rows_of}
use Rattle.search.specs.ArraysLaws.{rows_more, rows_same, rows_fit, rows_apart, rows_end, rows_top}
use Rattle.search.specs.inner.Scan.{Clear, FirstClear}
use Rattle.search.specs.inner.Kept.{Sized, Place, Listed, Passed, Lowest, Mendable, Mended}

-- with one guard everywhere, past every row is no further than the top and the guard
past_guarded : (table : List (List Bool)) (widths : List ℕ) (guard : ℕ) (rows : List Row) (i : ℕ) →
    past (problem_of table widths guard) rows i ≤ top (problem_of table widths guard) rows + guard
unfolding past top problem_of
past_guarded table widths guard [] i = omega arith
past_guarded table widths guard (r ∷ rows) i = omega (arith, past_guarded table widths guard rows i)

module _ (table : List (List Bool)) (widths : List ℕ) (guard K : ℕ) (order low past : List ℕ) (n : ℕ) where
  -- a start kept over rows that end within 384 is no higher than 392
  pub kept_bounded : Sized table widths guard K → top (problem_of table widths guard) (rows_of low order n) ≤ 384 → (from : ℕ) →
      Lowest table widths guard K order low n from → (p : ℕ) → from ≤ p → p < K → get_or low (get_or order p 0) 0 ≤ 392
  unfolding Lowest
  kept_bounded sized below from kept p h k =
      omega (
        arith,
        kept p h k,
        sized.guarded,
        lowest_past (problem_of table widths guard) (rows_of low order n) (get_or order p 0),
        past_guarded table widths guard (rows_of low order n) (get_or order p 0),
      )

  -- the place past a demand is no higher than 392
  pub passed_bounded : Sized table widths guard K → Listed K order → Passed widths guard K order low past n →
      top (problem_of table widths guard) (rows_of low order n) ≤ 384 → (k : ℕ) → k < K → get_or past k 0 ≤ 392
  unfolding end_of problem_of
  passed_bounded sized listed passed below k h =
      let place : Place K order k = listed.all k h in
      subst (λ (j : ℕ). get_or past j 0 ≤ 392) place.there
      (by_test (ltb place.at n)
      (λ e.
      let l = ltb-true place.at n e in
      omega
      (arith, passed.ended place.at l, sized.guarded, rows_end (problem_of table widths guard) low order n place.at l))
      (λ e. omega (arith, passed.unset place.at (ltb-false place.at n e) place.within)))

  -- the demand at place n was put down; a demand that is apart from it keeps its lowest start
  pub mended_stays : (from : ℕ) → Mendable table widths guard K order low past n from → (p : ℕ) → from ≤ p → p < K →
      apart (problem_of table widths guard) (get_or order n 0) (get_or low (get_or order n 0) 0) (get_or order p 0) (get_or low (get_or order p 0) 0) ≡ true →
      get_or low (get_or order p 0) 0 ≡ lowest (problem_of table widths guard) (rows_of low order (n + 1)) (get_or order p 0)
  unfolding Lowest
  mended_stays from m p h k a =
      let kept = m.kept p h k in
      let row : Row = record { who = get_or order n 0; at = get_or low (get_or order n 0) 0 } in
      rw rows_more
      (kept
      ∙ sym (lowest_stays (problem_of table widths guard) row (rows_of low order n) (get_or order p 0)
      (subst
      (λ (s : ℕ). apart (problem_of table widths guard) (get_or order n 0) (get_or low (get_or order n 0) 0) (get_or order p 0) s ≡ true)
      kept a)))

  -- the demand at place n was put down; one that shares no link with it stays
  pub stays_unjoined : (from : ℕ) → Mendable table widths guard K order low past n from → (p : ℕ) → from ≤ p → p < K →
      get_or (get_or table (get_or order n 0) []) (get_or order p 0) false ≡ false →
      get_or low (get_or order p 0) 0 ≡ lowest (problem_of table widths guard) (rows_of low order (n + 1)) (get_or order p 0)
  unfolding problem_of
  stays_unjoined from m p h k e =
      mended_stays from m p h k
      (unjoined_apart (problem_of table widths guard) (get_or order n 0) (get_or low (get_or order n 0) 0) (get_or order p 0) (get_or low (get_or order p 0) 0) e)

  -- one that starts past it stays
  pub stays_after : (from : ℕ) → Mendable table widths guard K order low past n from → (p : ℕ) → from ≤ p → p < K →
      get_or past (get_or order n 0) 0 ≤ get_or low (get_or order p 0) 0 →
      get_or low (get_or order p 0) 0 ≡ lowest (problem_of table widths guard) (rows_of low order (n + 1)) (get_or order p 0)
  unfolding problem_of end_of
  stays_after from m p h k l =
      mended_stays from m p h k
      (before_apart (problem_of table widths guard) (get_or order n 0) (get_or low (get_or order n 0) 0) (get_or order p 0) (get_or low (get_or order p 0) 0)
      (omega (arith, m.passed.ended n (omega arith))))

  -- one that ends, guard included, before it starts stays
  pub stays_before : (from : ℕ) → Mendable table widths guard K order low past n from → (p : ℕ) → from ≤ p → p < K →
      get_or low (get_or order p 0) 0 + (get_or widths (get_or order p 0) 0 + guard) ≤ get_or low (get_or order n 0) 0 →
      get_or low (get_or order p 0) 0 ≡ lowest (problem_of table widths guard) (rows_of low order (n + 1)) (get_or order p 0)
  unfolding problem_of end_of
  stays_before from m p h k l =
      mended_stays from m p h k
      (after_apart (problem_of table widths guard) (get_or order n 0) (get_or low (get_or order n 0) 0) (get_or order p 0) (get_or low (get_or order p 0) 0)
      (omega arith))

  -- over n + 1 rows whose ends are known, a start that fits demand j is clear
  fits_clear : Sized table widths guard K → Listed K order → Passed widths guard K order low past n → (j : ℕ) → j < K → (s : ℕ) →
      fits (problem_of table widths guard) (rows_of low order n) j s ≡ true →
      Clear (get_or table j []) low past K (get_or widths j 0 + guard) s
  unfolding problem_of end_of Clear
  fits_clear sized listed passed j inside s f k h e below =
      let place : Place K order k = listed.all k h in
      let P : Problem = problem_of table widths guard in
      by_test (ltb place.at n)
      (λ first.
      let l = ltb-true place.at n first in
      let a : apart P k (get_or low k 0) j s ≡ true =
      subst (λ (i : ℕ). apart P i (get_or low i 0) j s ≡ true) place.there (rows_apart P low order j s n f place.at l) in
      let ended : get_or past k 0 ≡ get_or low k 0 + get_or widths k 0 + guard =
      subst (λ (i : ℕ). get_or past i 0 ≡ get_or low i 0 + get_or widths i 0 + guard) place.there (passed.ended place.at l) in
      ⊎_elim (λ b. omega arith) (λ b. absurd (omega arith))
      (apart_cases P k (get_or low k 0) j s a (sized.even k j h inside ∙ e)))
      (λ later.
      let unset : get_or past k 0 ≡ 0 =
      subst (λ (i : ℕ). get_or past i 0 ≡ 0) place.there
      (passed.unset place.at (ltb-false place.at n later) place.within) in
      omega arith)

  -- over n rows whose ends are known, a clear start fits demand j
  clear_fits : Sized table widths guard K → Listed K order → Passed widths guard K order low past n → n ≤ K → (j : ℕ) → j < K → (s : ℕ) →
      Clear (get_or table j []) low past K (get_or widths j 0 + guard) s →
      fits (problem_of table widths guard) (rows_of low order n) j s ≡ true
  unfolding problem_of end_of Clear
  clear_fits sized listed passed most j inside s clear =
      let P : Problem = problem_of table widths guard in
      rows_fit P low order j s n
      (λ q h.
      let k : ℕ = get_or order q 0 in
      let small : k < K = listed.inside q (omega arith) in
      by_test (get_or (get_or table j []) k false)
      (λ (e : get_or (get_or table j []) k false ≡ true).
      by_test (ltb (get_or low k 0) (s + (get_or widths j 0 + guard)))
      (λ l.
      before_apart P k (get_or low k 0) j s
      (omega (arith, passed.ended q h, clear k small e (ltb-true (get_or low k 0) (s + (get_or widths j 0 + guard)) l))))
      (λ l.
      after_apart P k (get_or low k 0) j s
      (omega (arith, ltb-false (get_or low k 0) (s + (get_or widths j 0 + guard)) l))))
      (λ (e : get_or (get_or table j []) k false ≡ false).
      unjoined_apart P k (get_or low k 0) j s (sized.even k j small inside ∙ e)))

module _ (table : List (List Bool)) (widths : List ℕ) (guard K : ℕ) (order low past : List ℕ) (n : ℕ) where
  -- the demand at place n was put down; one that clashes with it moves to the first clear start past it
  pub mended_moves : (from : ℕ) → Mendable table widths guard K order low past n from → (p : ℕ) → from ≤ p → p < K →
      get_or (get_or table (get_or order n 0) []) (get_or order p 0) false ≡ true →
      get_or low (get_or order p 0) 0 < get_or past (get_or order n 0) 0 →
      get_or low (get_or order n 0) 0 < get_or low (get_or order p 0) 0 + (get_or widths (get_or order p 0) 0 + guard) →
      (s : ℕ) → FirstClear (get_or table (get_or order p 0) []) low past K (get_or widths (get_or order p 0) 0 + guard) (get_or past (get_or order n 0) 0) s →
      s ≡ lowest (problem_of table widths guard) (rows_of low order (n + 1)) (get_or order p 0)
  unfolding problem_of end_of Lowest
  mended_moves from m p h k e l below s found =
      let P : Problem = problem_of table widths guard in
      let i : ℕ = get_or order n 0 in
      let j : ℕ = get_or order p 0 in
      let row : Row = record { who = i; at = get_or low i 0 } in
      let ended = m.passed.ended n (omega arith) in
      let clash : apart P i (get_or low i 0) j (lowest P (rows_of low order n) j) ≡ false =
      subst (λ (t : ℕ). apart P i (get_or low i 0) j t ≡ false) (m.kept p h k)
      (clash_from P i (get_or low i 0) j (get_or low j 0) e (omega arith) (omega arith)) in
      let jumped : get_or low i 0 + get_or widths i 0 + guard ≤ lowest P (rows_of low order (n + 1)) j =
      rw rows_more (lowest_jumps P row (rows_of low order n) j clash) in
      let clear =
      fits_clear table widths guard K order low past (n + 1) m.sized m.listed m.passed j (m.listed.inside p k)
      (lowest P (rows_of low order (n + 1)) j) (lowest_fits P (rows_of low order (n + 1)) j) in
      let low-enough = found.first (lowest P (rows_of low order (n + 1)) j) (omega arith) clear in
      let high-enough =
      lowest_least P (rows_of low order (n + 1)) j s
      (clear_fits table widths guard K order low past (n + 1) m.sized m.listed m.passed (omega (arith, m.within)) j
      (m.listed.inside p k) s found.clear) in
      omega arith

  -- the rows before the last one do not end above 384 either
  pub rows_top_of : (from : ℕ) → Mendable table widths guard K order low past n from →
      top (problem_of table widths guard) (rows_of low order n) ≤ 384
  rows_top_of from m = omega (arith, m.below, rows_top (problem_of table widths guard) low order n)

  -- before the first turn nothing is mended
  pub mended_none : Mended table widths guard K order low n (n + 1) low
  mended_none = record { long = refl; placed = λ q h. refl; done = λ q h k l. absurd (omega arith); left = λ q h k. refl }

  -- mended starts leave the rows up to place n as they were
  pub mended_rows : (p : ℕ) (mended : List ℕ) → Mended table widths guard K order low n p mended →
      (m : ℕ) → m ≤ n + 1 → rows_of mended order m ≡ rows_of low order m
  mended_rows p mended so_far m h =
      rows_same mended low order order m (λ q l. refl) (λ q l. so_far.placed q (omega arith))

  -- in mid mending the next turns are as they were
  pub mended_mendable : (p : ℕ) (mended : List ℕ) → n < p → Mendable table widths guard K order low past n (n + 1) →
      Mended table widths guard K order low n p mended → Mendable table widths guard K order mended past n p
  unfolding Lowest
  mended_mendable p mended h m so_far =
      record {
        sized = m.sized;
        listed = m.listed;
        within = m.within;
        passed =
            record {
              room_low = omega (arith, m.passed.room_low, so_far.long);
              room_past = m.passed.room_past;
              ended = λ q l. m.passed.ended q l ∙ ap (λ (s : ℕ). s + get_or widths (get_or order q 0) 0 + guard) (sym (so_far.placed q (omega arith)));
              unset = m.passed.unset;
            };
        kept =
            λ q l k.
            so_far.left q l k
            ∙ m.kept q (omega arith) k
            ∙ ap (λ (rows : List Row). lowest (problem_of table widths guard) rows (get_or order q 0))
            (sym (mended_rows p mended so_far n (omega arith)));
        below =
            subst (λ (rows : List Row). top (problem_of table widths guard) rows ≤ 384)
            (sym (mended_rows p mended so_far (n + 1) (omega arith))) m.below;
      }

  -- one turn mends the demand at place p
  pub mended_next : (p : ℕ) (mended : List ℕ) (s : ℕ) → n < p → p < K → Listed K order → K ≤ length low →
      Mended table widths guard K order low n p mended →
      s ≡ lowest (problem_of table widths guard) (rows_of mended order (n + 1)) (get_or order p 0) →
      Mended table widths guard K order low n (p + 1) (set mended (get_or order p 0) s)
  mended_next p mended s h k listed long so_far e =
      let j : ℕ = get_or order p 0 in
      let other : (q : ℕ) → q < K → (q ≡ p → ⊥) → get_or (set mended j s) (get_or order q 0) 0 ≡ get_or mended (get_or order q 0) 0 =
      λ q l d. get_or-set_other mended j (get_or order q 0) s 0 (λ same. d (listed.once q p l k same)) in
      record {
        long = length-set mended j s ∙ so_far.long;
        placed = λ q l. other q (omega arith) (λ d. omega arith) ∙ so_far.placed q l;
        done =
            λ q l below small.
            ⊎_elim
            (λ (same : q ≡ p).
            subst
            (λ (r : ℕ).
            get_or (set mended j s) (get_or order r 0) 0 ≡ lowest (problem_of table widths guard) (rows_of low order (n + 1)) (get_or order r 0))
            (sym same)
            (get_or-set_same mended j s 0 (omega (arith, listed.inside p k, so_far.long))
            ∙ e
            ∙ ap (λ (rows : List Row). lowest (problem_of table widths guard) rows j) (mended_rows p mended so_far (n + 1) (omega arith))))
            (λ (less : q < p). other q small (λ d. omega arith) ∙ so_far.done q l less small)
            (eq-or-lt_of_le (let below-p : q ≤ p = omega arith in below-p));
        left = λ q l small. other q small (λ d. omega arith) ∙ so_far.left q (omega arith) small;
      }
