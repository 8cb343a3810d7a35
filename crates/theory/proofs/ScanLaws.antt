-- The scan finds the lowest start, and needs no more looks than one and one for each row that shares a link.
use Prim.Native.Nat.{ℕ, zero, suc, ◌+◌, ◌≤◌, ◌<◌, max}
use Rattle.std.proofs.Math.Bool.{true, and-false}
use Rattle.std.specs.Prelude.{false, ◌&&◌, ◌≡◌}
use mathlib.Core.List.{List, [], ◌∷◌, ◌++◌}
use Rattle.std.proofs.Math.Path.{refl}
use Rattle.std.proofs.Common.{sym}
use native.Mathlib.Omega.{arith}
use Rattle.std.proofs.Math.Dec.{ltb}
use borrow.Author.Tests.{ltb-true, ltb-false, lt-ltb, le-ltb}
use Rattle.theory.specs.Problem.{Problem, Row, end_of, apart, fits, lowest}
use Rattle.theory.specs.inner.Scan.{next_start, scan, joined_rows, rows_ahead}
use Rattle.theory.proofs.TestLaws.{by_test, not_both, not_true_false, not_false_true}
use Rattle.theory.proofs.ApartLaws.{clash_facts, clash_lasts}
use Rattle.theory.proofs.ProblemLaws.{fits_nil, fits_with, fits_first, fits_rest, fits_not_first, fits_not_rest, lowest_fits, lowest_least}

module _ (P : Problem) where
  -- with no row the scan stays
  pub next_nil : (i s : ℕ) → next_start P [] i s ≡ s
  unfolding next_start
  next_nil i s = refl

  -- a row that is apart does not count
  pub next_apart : (r : Row) (rows : List Row) (i s : ℕ) → apart P r.who r.at i s ≡ true →
      next_start P (r ∷ rows) i s ≡ next_start P rows i s
  unfolding next_start
  next_apart r rows i s a = rw a

  -- a row that clashes counts with its end and gap
  pub next_clash : (r : Row) (rows : List Row) (i s : ℕ) → apart P r.who r.at i s ≡ false →
      next_start P (r ∷ rows) i s ≡ max (end_of P r.who r.at + P.gap r.who i) (next_start P rows i s)
  unfolding next_start
  next_clash r rows i s c = rw c

  -- the scan never goes down
  pub next_from : (rows : List Row) (i s : ℕ) → s ≤ next_start P rows i s
  next_from [] i s = rw next_nil (omega arith)
  next_from (r ∷ rows) i s =
      by_test (apart P r.who r.at i s)
      (λ a. rw (next_apart r rows i s a) (next_from rows i s))
      (λ c. rw (next_clash r rows i s c) (omega (arith, next_from rows i s)))

  -- over two lists of rows the next start is the larger of the two
  pub next_append : (front back : List Row) (i s : ℕ) →
      next_start P (front ++ back) i s ≡ max (next_start P front i s) (next_start P back i s)
  next_append [] back i s = omega (arith, next_nil i s, next_from back i s)
  next_append (r ∷ front) back i s =
      by_test (apart P r.who r.at i s)
      (λ a. rw (next_apart r (front ++ back) i s a, next_apart r front i s a) (next_append front back i s))
      (λ c.
      rw (next_clash r (front ++ back) i s c, next_clash r front i s c)
      (omega (arith, next_append front back i s)))

  -- where a demand fits the scan stays
  pub next_fits : (rows : List Row) (i s : ℕ) → fits P rows i s ≡ true → next_start P rows i s ≡ s
  next_fits [] i s f = next_nil i s
  next_fits (r ∷ rows) i s f =
      rw (next_apart r rows i s (fits_first P r rows i s f)) (next_fits rows i s (fits_rest P r rows i s f))

  -- what does not fit beside all rows though it is apart from the first does not fit beside the others
  clash_later : (r : Row) (rows : List Row) (i s : ℕ) → apart P r.who r.at i s ≡ true →
      fits P (r ∷ rows) i s ≡ false → fits P rows i s ≡ false
  clash_later r rows i s a f =
      not_true_false (fits P rows i s) (λ t. not_both (fits P (r ∷ rows) i s) (fits_with P r rows i s a t) f)

  -- where a demand does not fit the scan goes up
  pub next_rises : (rows : List Row) (i s : ℕ) → fits P rows i s ≡ false → s < next_start P rows i s
  next_rises [] i s f = not_both (fits P [] i s) (fits_nil P i s) f
  next_rises (r ∷ rows) i s f =
      by_test (apart P r.who r.at i s)
      (λ a. rw (next_apart r rows i s a) (next_rises rows i s (clash_later r rows i s a f)))
      (λ c. rw (next_clash r rows i s c) (omega (arith, clash_facts P r.who r.at i s c)))

  -- where the scan stays a demand fits
  pub next_same : (rows : List Row) (i s : ℕ) → next_start P rows i s ≡ s → fits P rows i s ≡ true
  next_same rows i s e = not_false_true (fits P rows i s) (λ f. omega (arith, next_rises rows i s f))

  -- nothing fits from a start up to the next one
  pub next_skips : (rows : List Row) (i s t : ℕ) → s ≤ t → t < next_start P rows i s → fits P rows i t ≡ false
  next_skips [] i s t h k = absurd (omega (arith, next_nil i s))
  next_skips (r ∷ rows) i s t h k =
      by_test (apart P r.who r.at i s)
      (λ a. fits_not_rest P r rows i t (next_skips rows i s t h (rw (next_apart r rows i s a) at k)))
      (λ c.
      by_test (ltb t (end_of P r.who r.at + P.gap r.who i))
      (λ l.
      fits_not_first P r rows i t
      (clash_lasts P r.who r.at i s t c h (ltb-true t (end_of P r.who r.at + P.gap r.who i) l)))
      (λ g.
      fits_not_rest P r rows i t
      (next_skips rows i s t h
      (omega (arith, ltb-false t (end_of P r.who r.at + P.gap r.who i) g, next_clash r rows i s c)))))

  -- a scan that has not passed the lowest start does not pass it with its next start
  pub next_lowest : (rows : List Row) (i s : ℕ) → s ≤ lowest P rows i → next_start P rows i s ≤ lowest P rows i
  next_lowest rows i s h =
      by_test (ltb (lowest P rows i) (next_start P rows i s))
      (λ l.
      not_both (fits P rows i (lowest P rows i)) (lowest_fits P rows i)
      (next_skips rows i s (lowest P rows i) h (ltb-true (lowest P rows i) (next_start P rows i s) l)))
      (ltb-false (lowest P rows i) (next_start P rows i s))

  -- a scan that has not passed the lowest start has found it where the demand fits
  pub scan_found : (rows : List Row) (i s : ℕ) → s ≤ lowest P rows i → fits P rows i s ≡ true → lowest P rows i ≡ s
  scan_found rows i s h f = omega (arith, lowest_least P rows i s f)

  -- the rows ahead: one that is joined and not passed counts
  ahead_counts : (r : Row) (rows : List Row) (i s : ℕ) → P.joined r.who i ≡ true →
      s < end_of P r.who r.at + P.gap r.who i → rows_ahead P (r ∷ rows) i s ≡ suc (rows_ahead P rows i s)
  unfolding rows_ahead
  ahead_counts r rows i s e h = rw (e, lt-ltb s (end_of P r.who r.at + P.gap r.who i) h)

  -- the rows ahead: one that is passed does not count
  ahead_passed : (r : Row) (rows : List Row) (i s : ℕ) → end_of P r.who r.at + P.gap r.who i ≤ s →
      rows_ahead P (r ∷ rows) i s ≡ rows_ahead P rows i s
  unfolding rows_ahead
  ahead_passed r rows i s h =
      rw (le-ltb s (end_of P r.who r.at + P.gap r.who i) h, and-false (P.joined r.who i))

  -- the rows ahead: one that shares no link does not count
  ahead_unjoined : (r : Row) (rows : List Row) (i s : ℕ) → P.joined r.who i ≡ false →
      rows_ahead P (r ∷ rows) i s ≡ rows_ahead P rows i s
  unfolding rows_ahead
  ahead_unjoined r rows i s e = rw e

  -- the rows ahead: one row counts for one or for nothing
  ahead_one : (r : Row) (rows : List Row) (i s : ℕ) →
      (rows_ahead P rows i s ≤ rows_ahead P (r ∷ rows) i s) × (rows_ahead P (r ∷ rows) i s ≤ suc (rows_ahead P rows i s))
  unfolding rows_ahead
  ahead_one r rows i s =
      by_test (P.joined r.who i && ltb s (end_of P r.who r.at + P.gap r.who i))
      (λ e. rw e (omega arith))
      (λ e. rw e (omega arith))

  -- the rows ahead: a row that counts at a start counts at every lower one
  ahead_first : (r : Row) (rows : List Row) (i s t : ℕ) → s ≤ t →
      rows_ahead P (r ∷ rows) i t + rows_ahead P rows i s ≤ rows_ahead P (r ∷ rows) i s + rows_ahead P rows i t
  ahead_first r rows i s t h =
      let until : ℕ = end_of P r.who r.at + P.gap r.who i in
      by_test (P.joined r.who i)
      (λ e.
      by_test (ltb t until)
      (λ l.
      let low : t < until = ltb-true t until l in
      omega (arith, ahead_counts r rows i t e low, ahead_counts r rows i s e (omega arith)))
      (λ g. omega (arith, ahead_passed r rows i t (ltb-false t until g), ahead_one r rows i s)))
      (λ e. omega (arith, ahead_unjoined r rows i t e, ahead_unjoined r rows i s e))

  -- no more rows are ahead of a higher start
  pub ahead_fewer : (rows : List Row) (i s t : ℕ) → s ≤ t → rows_ahead P rows i t ≤ rows_ahead P rows i s
  unfolding rows_ahead
  ahead_fewer [] i s t h = omega arith
  ahead_fewer (r ∷ rows) i s t h = omega (arith, ahead_first r rows i s t h, ahead_fewer rows i s t h)

  -- no more rows are ahead than share a link
  pub ahead_joined : (rows : List Row) (i s : ℕ) → rows_ahead P rows i s ≤ joined_rows P rows i
  unfolding rows_ahead joined_rows
  ahead_joined [] i s = omega arith
  ahead_joined (r ∷ rows) i s =
      by_test (P.joined r.who i)
      (λ e. omega (arith, ahead_one r rows i s, ahead_joined rows i s, joined_counts e))
      (λ e. rw e (ahead_joined rows i s))
    where
      joined_counts : P.joined r.who i ≡ true → joined_rows P (r ∷ rows) i ≡ suc (joined_rows P rows i)
      joined_counts e = rw e

  -- with each look that finds a clash fewer rows are ahead
  pub ahead_falls : (rows : List Row) (i s t : ℕ) → fits P rows i s ≡ false → next_start P rows i s ≤ t →
      rows_ahead P rows i t < rows_ahead P rows i s
  ahead_falls [] i s t f h = not_both (fits P [] i s) (fits_nil P i s) f
  ahead_falls (r ∷ rows) i s t f h =
      let s≤t : s ≤ t = omega (arith, next_from (r ∷ rows) i s) in
      by_test (apart P r.who r.at i s)
      (λ a.
      let fewer : rows_ahead P rows i t < rows_ahead P rows i s =
      ahead_falls rows i s t (clash_later r rows i s a f) (rw (next_apart r rows i s a) at h) in
      omega (arith, ahead_first r rows i s t s≤t))
      (λ c.
      let (joined, low, high) = clash_facts P r.who r.at i s c in
      omega (
        arith,
        ahead_counts r rows i s joined low,
        ahead_fewer rows i s t s≤t,
        next_clash r rows i s c,
        ahead_passed r rows i t (omega (arith, next_clash r rows i s c)),
      ))

  -- so many looks as rows are ahead, and one, find the lowest start from any start that is not above it
  pub scan_from : (looks : ℕ) (rows : List Row) (i s : ℕ) → s ≤ lowest P rows i → rows_ahead P rows i s < looks →
      scan P looks rows i s ≡ lowest P rows i
  unfolding scan
  scan_from zero rows i s h k = absurd (omega arith)
  scan_from (suc looks) rows i s h k =
      by_test (fits P rows i s)
      (λ f. rw f (sym (scan_found rows i s h f)))
      (λ f.
      rw f
      (scan_from looks rows i (next_start P rows i s) (next_lowest rows i s h)
      (omega (arith, ahead_falls rows i s (next_start P rows i s) f (omega arith)))))

  -- the scan from 0 finds the lowest start with one look and one more for each row that shares a link
  pub scan_lowest : (rows : List Row) (i : ℕ) → scan P (suc (joined_rows P rows i)) rows i 0 ≡ lowest P rows i
  scan_lowest rows i =
      scan_from (suc (joined_rows P rows i)) rows i 0 (omega arith) (omega (arith, ahead_joined rows i 0))
