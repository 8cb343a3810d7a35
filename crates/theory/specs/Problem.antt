-- Problems, rows and first fit: what it means to stand apart, to fit, and to be placed at the lowest start.
use Prim.Native.Nat.{ℕ, zero, suc, ◌+◌, ◌≤◌, max}
use Rattle.std.specs.Prelude.{Bool, ◌&&◌, ◌||◌, ◌≢◌, ◌≡◌}
use Rattle.std.proofs.Math.Bool.{true, not, cond}
use mathlib.Core.List.{List, [], ◌∷◌, Memᴰ}
use lib.Dec.{leb}

-- demands go by number: how wide each is, which two share a link, and the gap to keep after the first before the second
pub record Problem : Type 0 where
  pub width : ℕ → ℕ
  pub joined : ℕ → ℕ → Bool
  pub gap : ℕ → ℕ → ℕ

-- a demand placed at a start
pub record Row : Type 0 where
  pub who : ℕ
  pub at : ℕ

module _ (P : Problem) where
  -- demand i started at s ends here
  unfoldable pub end_of : ℕ → ℕ → ℕ
  end_of i s = s + P.width i

  -- demand i at s and demand j at t do not clash: they share no link, or one ends, the gap included, before the other starts
  unfoldable pub apart : ℕ → ℕ → ℕ → ℕ → Bool
  unfolding end_of
  apart i s j t = not (P.joined i j) || (leb (end_of i s + P.gap i j) t || leb (end_of j t + P.gap j i) s)

  -- demand i at s clashes with none of the rows
  unfoldable pub fits : List Row → ℕ → ℕ → Bool
  unfolding apart
  fits [] i s = true
  fits (r ∷ rows) i s = apart r.who r.at i s && fits rows i s

  -- a start past every row and its gap: no demand needs a higher one
  unfoldable pub past : List Row → ℕ → ℕ
  unfolding end_of
  past [] i = 0
  past (r ∷ rows) i = max (end_of r.who r.at + P.gap r.who i) (past rows i)

-- the least number that passes the test, looked for from a number upwards, so many times at the most
unfoldable pub least : (ℕ → Bool) → ℕ → ℕ → ℕ
least test zero from = from
least test (suc more) from = let later : ℕ = least test more (suc from) in cond (test from) from later

module _ (P : Problem) where
  -- the lowest start at which demand i clashes with no row; there is no upper limit
  unfoldable pub lowest : List Row → ℕ → ℕ
  unfolding least
  lowest rows i = least (fits P rows i) (past P rows i) 0

  -- demand i put at its lowest start, in front of the rows
  unfoldable pub place : List Row → ℕ → List Row
  place rows i = record { who = i; at = lowest rows i } ∷ rows

  -- the demands of an order put one after the other
  unfoldable pub fill : List Row → List ℕ → List Row
  fill rows [] = rows
  fill rows (i ∷ order) = fill (place rows i) order

  -- the largest end of the rows, 0 when there are none
  unfoldable pub top : List Row → ℕ
  unfolding end_of
  top [] = 0
  top (r ∷ rows) = max (end_of P r.who r.at) (top rows)

-- what first fit inside a band gives: the rows of all, or the rows so far and the first demand for which there is no start beside them
pub data Fitted : Type 0 where
  placed : List Row → Fitted
  refused : List Row → ℕ → Fitted

module _ (P : Problem) (S : ℕ) where
  -- first fit in an order, each end at most S
  unfoldable pub first_fit : List Row → List ℕ → Fitted
  unfolding end_of
  first_fit rows [] = placed rows
  first_fit rows (i ∷ order) =
      let further : Fitted = first_fit (place P rows i) order in
      cond (leb (end_of P i (lowest P rows i)) S) further (refused rows i)

-- a plan is a start for each demand of a list, beside rows that stand already; it is allowed when all demands end within S, and
-- no demand clashes with a row or with another demand of the list
pub record Allowed (P : Problem) (S : ℕ) (rows : List Row) (todo : List ℕ) (plan : ℕ → ℕ) : Type 0 where
  pub within : (i : ℕ) → Memᴰ i todo → end_of P i (plan i) ≤ S
  pub clear_of_rows : (i : ℕ) → Memᴰ i todo → fits P rows i (plan i) ≡ true
  pub clear_of_others : (i j : ℕ) → Memᴰ i todo → Memᴰ j todo → i ≢ j → apart P i (plan i) j (plan j) ≡ true

-- the largest end of a plan's demands, and of the rows that stood already
unfoldable pub plan_end : Problem → List Row → List ℕ → (ℕ → ℕ) → ℕ
unfolding end_of top
plan_end P rows [] plan = top P rows
plan_end P rows (i ∷ todo) plan = max (end_of P i (plan i)) (plan_end P rows todo plan)

-- the start that the rows give demand i, 0 where they do not hold it
unfoldable pub start_in : List Row → ℕ → ℕ
start_in [] i = 0
start_in (r ∷ rows) i = cond (lib.Dec.eqb r.who i) r.at (start_in rows i)
