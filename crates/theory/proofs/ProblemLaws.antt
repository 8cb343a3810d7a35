-- What fits, the lowest start, placing and filling: the laws that everything above cites.
use Rattle.std.specs.Prelude.{ℕ, zero, suc, ◌+◌, ◌≤◌, ◌<◌, max, Bool, true, false, ◌&&◌, ◌≡◌, refl, leb}
use Rattle.std.proofs.Math.Bool.{and_assoc}
use mathlib.Core.List.Memᴰ
use mathlib.Core.List.{List, [], ◌∷◌, ◌++◌, Memᴰ}
use Rattle.std.proofs.Common.{⊎_elim, sym, ap, ◌∙◌, arith, leb-true, leb-false, eq-eqb, ne_eqb}
use Rattle.theory.specs.Problem.{Problem, Row, end_of, apart, fits, past, least, lowest, place, fill, top, plan_end, start_in}
use Rattle.theory.proofs.TestLaws.{by_test, not_both, and_both, and_first, and_second, not_true_false}
use Rattle.theory.proofs.ApartLaws.{before_apart, clash_lasts}

-- an end is the start plus the width
pub end_is : (P : Problem) (i s : ℕ) → end_of P i s ≡ s + P.width i
unfolding end_of
end_is P i s = refl

-- a higher start has a higher end
pub end_rises : (P : Problem) (i s t : ℕ) → s ≤ t → end_of P i s ≤ end_of P i t
unfolding end_of
end_rises P i s t h = omega arith

-- everything fits where no row stands
pub fits_nil : (P : Problem) (i s : ℕ) → fits P [] i s ≡ true
unfolding fits
fits_nil P i s = refl

-- to fit beside one more row is to be apart from it and to fit beside the others
pub fits_cons : (P : Problem) (r : Row) (rows : List Row) (i s : ℕ) →
    fits P (r ∷ rows) i s ≡ (apart P r.who r.at i s && fits P rows i s)
unfolding fits
fits_cons P r rows i s = refl

-- apart from a row, and fitting beside the others: it fits beside all
pub fits_with : (P : Problem) (r : Row) (rows : List Row) (i s : ℕ) →
    apart P r.who r.at i s ≡ true → fits P rows i s ≡ true → fits P (r ∷ rows) i s ≡ true
fits_with P r rows i s a f = rw fits_cons (and_both (apart P r.who r.at i s) (fits P rows i s) a f)

-- what fits is apart from the first row
pub fits_first : (P : Problem) (r : Row) (rows : List Row) (i s : ℕ) →
    fits P (r ∷ rows) i s ≡ true → apart P r.who r.at i s ≡ true
fits_first P r rows i s f = and_first (apart P r.who r.at i s) (fits P rows i s) (rw fits_cons at f)

-- what fits beside all rows fits beside the rows after the first
pub fits_rest : (P : Problem) (r : Row) (rows : List Row) (i s : ℕ) →
    fits P (r ∷ rows) i s ≡ true → fits P rows i s ≡ true
fits_rest P r rows i s f = and_second (apart P r.who r.at i s) (fits P rows i s) (rw fits_cons at f)

-- what clashes with the first row does not fit
pub fits_not_first : (P : Problem) (r : Row) (rows : List Row) (i s : ℕ) →
    apart P r.who r.at i s ≡ false → fits P (r ∷ rows) i s ≡ false
fits_not_first P r rows i s a = rw (fits_cons, a)

-- what does not fit beside the rows after the first does not fit
pub fits_not_rest : (P : Problem) (r : Row) (rows : List Row) (i s : ℕ) →
    fits P rows i s ≡ false → fits P (r ∷ rows) i s ≡ false
fits_not_rest P r rows i s f = not_true_false (fits P (r ∷ rows) i s) (λ t. not_both (fits P rows i s) (fits_rest P r rows i s t) f)

-- what fits is apart from every row
pub fits_apart : (P : Problem) (rows : List Row) (i s : ℕ) → fits P rows i s ≡ true →
    (r : Row) → Memᴰ r rows → apart P r.who r.at i s ≡ true
fits_apart P [] i s f r m = absurd (Memᴰ.not-nil m)
fits_apart P (q ∷ rows) i s f r m =
    ⊎_elim (λ (e : r ≡ q). rw e (fits_first P q rows i s f)) (fits_apart P rows i s (fits_rest P q rows i s f) r) (Memᴰ.cases_cons m)

-- what is apart from every row fits
pub apart_fits : (P : Problem) (rows : List Row) (i s : ℕ) →
    ((r : Row) → Memᴰ r rows → apart P r.who r.at i s ≡ true) → fits P rows i s ≡ true
apart_fits P [] i s h = fits_nil P i s
apart_fits P (q ∷ rows) i s h =
    fits_with P q rows i s (h q (Memᴰ.head refl)) (apart_fits P rows i s (λ r m. h r (Memᴰ.tail m)))

-- to fit beside two lists of rows is to fit beside each
pub fits_append : (P : Problem) (front back : List Row) (i s : ℕ) →
    fits P (front ++ back) i s ≡ (fits P front i s && fits P back i s)
fits_append P [] back i s = rw fits_nil
fits_append P (r ∷ front) back i s =
    rw (fits_cons P r (front ++ back) i s, fits_cons P r front i s, fits_append P front back i s)
    (sym (and_assoc (apart P r.who r.at i s) (fits P front i s) (fits P back i s)))

-- looking for the least number, one turn: the number itself where it passes
pub least_here : (test : ℕ → Bool) (more from : ℕ) → test from ≡ true → least test (suc more) from ≡ from
unfolding least
least_here test more from e = rw e

-- looking for the least number, one turn: one higher where it does not pass
pub least_on : (test : ℕ → Bool) (more from : ℕ) → test from ≡ false → least test (suc more) from ≡ least test more (suc from)
unfolding least
least_on test more from e = rw e

-- a number that passes lies above one that it is not below and that fails
above_failed : (test : ℕ → Bool) (from t : ℕ) → from ≤ t → test t ≡ true → test from ≡ false → suc from ≤ t
above_failed test from t h e p =
    by_test (leb (suc from) t) (leb-true (suc from) t)
    (λ f.
    let lower : t < suc from = leb-false (suc from) t f in
    let same : from ≡ t = omega arith in
    not_both (test t) e (ap test (sym same) ∙ p))

-- the looking never goes above a number that passes
pub least_least : (test : ℕ → Bool) (more from t : ℕ) → from ≤ t → test t ≡ true → least test more from ≤ t
unfolding least
least_least test zero from t h e = h
least_least test (suc more) from t h e =
    by_test (test from)
    (λ (p : test from ≡ true). rw p h)
    (λ (p : test from ≡ false). rw p (least_least test more (suc from) t (above_failed test from t h e p) e))

-- with looks enough for some number that passes, the number found passes
pub least_passes : (test : ℕ → Bool) (more from t : ℕ) → from ≤ t → t ≤ from + more → test t ≡ true →
    test (least test more from) ≡ true
unfolding least
least_passes test zero from t h k e = rw (← e) (ap test (omega arith))
least_passes test (suc more) from t h k e =
    by_test (test from)
    (λ (p : test from ≡ true). ap test (least_here test more from p) ∙ p)
    (λ (p : test from ≡ false).
    ap test (least_on test more from p) ∙ least_passes test more (suc from) t (above_failed test from t h e p) (omega arith) e)

-- past every row and its gap all fits
pub past_fits : (P : Problem) (rows : List Row) (i s : ℕ) → past P rows i ≤ s → fits P rows i s ≡ true
unfolding past
past_fits P [] i s h = fits_nil P i s
past_fits P (r ∷ rows) i s h =
    fits_with P r rows i s (before_apart P r.who r.at i s (omega arith)) (past_fits P rows i s (omega arith))

-- no start below the lowest fits
pub lowest_least : (P : Problem) (rows : List Row) (i s : ℕ) → fits P rows i s ≡ true → lowest P rows i ≤ s
unfolding lowest
lowest_least P rows i s f = least_least (fits P rows i) (past P rows i) 0 s (omega arith) f

-- the lowest start fits
pub lowest_fits : (P : Problem) (rows : List Row) (i : ℕ) → fits P rows i (lowest P rows i) ≡ true
unfolding lowest
lowest_fits P rows i =
    least_passes (fits P rows i) (past P rows i) 0 (past P rows i) (omega arith) (omega arith)
    (past_fits P rows i (past P rows i) (omega arith))

-- the lowest start is no higher than past every row and its gap
pub lowest_past : (P : Problem) (rows : List Row) (i : ℕ) → lowest P rows i ≤ past P rows i
lowest_past P rows i = lowest_least P rows i (past P rows i) (past_fits P rows i (past P rows i) (omega arith))

-- a start that fits, and below which nothing does, is the lowest
pub lowest_is : (P : Problem) (rows : List Row) (i s : ℕ) → fits P rows i s ≡ true →
    ((t : ℕ) → t < s → fits P rows i t ≡ true → ⊥) → lowest P rows i ≡ s
lowest_is P rows i s f none_lower =
    by_test (leb s (lowest P rows i))
    (λ e. omega (arith, leb-true s (lowest P rows i) e, lowest_least P rows i s f))
    (λ e. absurd (none_lower (lowest P rows i) (leb-false s (lowest P rows i) e) (lowest_fits P rows i)))

-- one more row never lowers the lowest start
pub lowest_rises : (P : Problem) (r : Row) (rows : List Row) (i : ℕ) → lowest P rows i ≤ lowest P (r ∷ rows) i
lowest_rises P r rows i =
    lowest_least P rows i (lowest P (r ∷ rows) i) (fits_rest P r rows i (lowest P (r ∷ rows) i) (lowest_fits P (r ∷ rows) i))

-- a new row that is apart from a demand at its lowest start leaves that start as it is
pub lowest_stays : (P : Problem) (r : Row) (rows : List Row) (i : ℕ) →
    apart P r.who r.at i (lowest P rows i) ≡ true → lowest P (r ∷ rows) i ≡ lowest P rows i
lowest_stays P r rows i a =
    let h = lowest_rises P r rows i in
    let k = lowest_least P (r ∷ rows) i (lowest P rows i) (fits_with P r rows i (lowest P rows i) a (lowest_fits P rows i)) in
    omega arith

-- a row that clashes at a start which is not above the lowest takes the lowest past the row's end and gap
pub clash_jumps : (P : Problem) (rows : List Row) (i s : ℕ) (r : Row) → Memᴰ r rows → s ≤ lowest P rows i →
    apart P r.who r.at i s ≡ false → end_of P r.who r.at + P.gap r.who i ≤ lowest P rows i
clash_jumps P rows i s r m h c =
    let until : ℕ = end_of P r.who r.at + P.gap r.who i in
    by_test (leb until (lowest P rows i))
    (leb-true until (lowest P rows i))
    (λ e.
    not_both (apart P r.who r.at i (lowest P rows i))
    (fits_apart P rows i (lowest P rows i) (lowest_fits P rows i) r m)
    (clash_lasts P r.who r.at i s (lowest P rows i) c h (leb-false until (lowest P rows i) e)))

-- a new row that clashes with a demand at its lowest start takes that start past the row's end and gap
pub lowest_jumps : (P : Problem) (r : Row) (rows : List Row) (i : ℕ) →
    apart P r.who r.at i (lowest P rows i) ≡ false →
    end_of P r.who r.at + P.gap r.who i ≤ lowest P (r ∷ rows) i
lowest_jumps P r rows i c =
    clash_jumps P (r ∷ rows) i (lowest P rows i) r (Memᴰ.head refl) (lowest_rises P r rows i) c

-- where no row stands the lowest start is 0
pub lowest_nil : (P : Problem) (i : ℕ) → lowest P [] i ≡ 0
lowest_nil P i = lowest_is P [] i 0 (fits_nil P i 0) (λ t h f. omega arith)

-- the top of no rows is 0
pub top_nil : (P : Problem) → top P [] ≡ 0
unfolding top
top_nil P = refl

-- the top with one more row is the larger of its end and the top of the others
pub top_cons : (P : Problem) (r : Row) (rows : List Row) →
    top P (r ∷ rows) ≡ max (end_of P r.who r.at) (top P rows)
unfolding top
top_cons P r rows = refl

-- no row ends above the top
pub top_above : (P : Problem) (rows : List Row) (r : Row) → Memᴰ r rows → end_of P r.who r.at ≤ top P rows
top_above P [] r m = absurd (Memᴰ.not-nil m)
top_above P (q ∷ rows) r m =
    rw top_cons
    (⊎_elim
    (λ (e : r ≡ q). rw e (omega arith))
    (λ (n : Memᴰ r rows). omega (arith, top_above P rows r n))
    (Memᴰ.cases_cons m))

-- the rows after placing a demand: itself at its lowest start, then those that stood
pub place_is : (P : Problem) (rows : List Row) (i : ℕ) → place P rows i ≡ record { who = i; at = lowest P rows i } ∷ rows
unfolding place
place_is P rows i = refl

-- where no gap is above g, past every row and its gap is at most g above the top
pub past_top : (P : Problem) (rows : List Row) (i g : ℕ) → ((j : ℕ) → P.gap j i ≤ g) → past P rows i ≤ top P rows + g
unfolding past
past_top P [] i g h = omega arith
past_top P (r ∷ rows) i g h = omega (arith, top_cons P r rows, h r.who, past_top P rows i g h)

-- the top after placing a demand is the larger of its end and the top before
pub top_place : (P : Problem) (rows : List Row) (i : ℕ) →
    top P (place P rows i) ≡ max (end_of P i (lowest P rows i)) (top P rows)
top_place P rows i = rw (place_is, top_cons)

-- what fits after a demand was placed is apart from it at its lowest start
pub place_apart : (P : Problem) (rows : List Row) (i j s : ℕ) → fits P (place P rows i) j s ≡ true →
    apart P i (lowest P rows i) j s ≡ true
place_apart P rows i j s f = fits_first P (record { who = i; at = lowest P rows i }) rows j s (rw place_is at f)

-- what fits after a demand was placed fitted before
pub place_rest : (P : Problem) (rows : List Row) (i j s : ℕ) → fits P (place P rows i) j s ≡ true → fits P rows j s ≡ true
place_rest P rows i j s f = fits_rest P (record { who = i; at = lowest P rows i }) rows j s (rw place_is at f)

-- what fitted before, and is apart from a demand at its lowest start, fits after that was placed
pub place_with : (P : Problem) (rows : List Row) (i j s : ℕ) → apart P i (lowest P rows i) j s ≡ true → fits P rows j s ≡ true →
    fits P (place P rows i) j s ≡ true
place_with P rows i j s a f = rw place_is (fits_with P (record { who = i; at = lowest P rows i }) rows j s a f)

-- filling along no order leaves the rows
pub fill_nil : (P : Problem) (rows : List Row) → fill P rows [] ≡ rows
unfolding fill
fill_nil P rows = refl

-- filling along an order places its first demand, then fills along the rest
pub fill_cons : (P : Problem) (rows : List Row) (i : ℕ) (order : List ℕ) →
    fill P rows (i ∷ order) ≡ fill P (place P rows i) order
unfolding fill
fill_cons P rows i order = refl

-- filling along two orders in a row is filling along the second over what the first gives
pub fill_append : (P : Problem) (rows : List Row) (front back : List ℕ) →
    fill P rows (front ++ back) ≡ fill P (fill P rows front) back
unfolding fill
fill_append P rows [] back = refl
fill_append P rows (i ∷ front) back = fill_append P (place P rows i) front back

-- filling never lowers the top
pub top_fill : (P : Problem) (rows : List Row) (order : List ℕ) → top P rows ≤ top P (fill P rows order)
top_fill P rows [] = rw fill_nil (omega arith)
top_fill P rows (i ∷ order) =
    rw fill_cons (omega (arith, top_place P rows i, top_fill P (place P rows i) order))

-- the rows give the demand of the first row its start
pub start_here : (i s : ℕ) (rows : List Row) → start_in (record { who = i; at = s } ∷ rows) i ≡ s
unfolding start_in
start_here i s rows = rw (eq-eqb i i refl)

-- the first row says nothing of another demand
pub start_other : (r : Row) (rows : List Row) (i : ℕ) → (r.who ≡ i → ⊥) → start_in (r ∷ rows) i ≡ start_in rows i
unfolding start_in
start_other r rows i h = rw (ne_eqb r.who i h)

-- a demand just placed starts at its lowest start
pub start_placed : (P : Problem) (rows : List Row) (i : ℕ) → start_in (place P rows i) i ≡ lowest P rows i
start_placed P rows i = rw (place_is) (start_here i (lowest P rows i) rows)

-- filling along an order leaves the start of a demand that is not in it
pub start_kept : (P : Problem) (rows : List Row) (order : List ℕ) (i : ℕ) → (Memᴰ i order → ⊥) →
    start_in (fill P rows order) i ≡ start_in rows i
start_kept P rows [] i h = rw fill_nil
start_kept P rows (j ∷ order) i h =
    rw (fill_cons, start_kept P (place P rows j) order i (λ m. h (Memᴰ.tail m)), place_is)
    (start_other (record { who = j; at = lowest P rows j }) rows i (λ e. h (Memᴰ.head (sym e))))

-- the first demand of an order in which it does not come again is put at its lowest start
pub start_first : (P : Problem) (rows : List Row) (i : ℕ) (order : List ℕ) → (Memᴰ i order → ⊥) →
    start_in (fill P rows (i ∷ order)) i ≡ lowest P rows i
start_first P rows i order h = rw (fill_cons, start_kept P (place P rows i) order i h) (start_placed P rows i)

-- a demand of an order in which it does not come again is put at its lowest start over the rows filled before it
pub start_filled : (P : Problem) (rows : List Row) (before : List ℕ) (i : ℕ) (after : List ℕ) → (Memᴰ i after → ⊥) →
    start_in (fill P rows (before ++ (i ∷ after))) i ≡ lowest P (fill P rows before) i
start_filled P rows before i after h = rw (fill_append P rows before (i ∷ after)) (start_first P (fill P rows before) i after h)

-- the end of a plan for nothing is the top of the rows that stand
pub plan_end-nil : (P : Problem) (rows : List Row) (plan : ℕ → ℕ) → plan_end P rows [] plan ≡ top P rows
unfolding plan_end
plan_end-nil P rows plan = refl

-- the end of a plan for one more demand is the larger of its end and the end of the others
pub plan_end-cons : (P : Problem) (rows : List Row) (i : ℕ) (todo : List ℕ) (plan : ℕ → ℕ) →
    plan_end P rows (i ∷ todo) plan ≡ max (end_of P i (plan i)) (plan_end P rows todo plan)
unfolding plan_end
plan_end-cons P rows i todo plan = refl

-- a demand in the middle of the list counts as one in front
pub plan_end_middle : (P : Problem) (rows : List Row) (before : List ℕ) (i : ℕ) (after : List ℕ) (plan : ℕ → ℕ) →
    plan_end P rows (before ++ (i ∷ after)) plan ≡ max (end_of P i (plan i)) (plan_end P rows (before ++ after) plan)
unfolding plan_end
plan_end_middle P rows [] i after plan = refl
plan_end_middle P rows (j ∷ before) i after plan = omega (arith, plan_end_middle P rows before i after plan)

-- one more row counts with its end
pub plan_end_row : (P : Problem) (r : Row) (rows : List Row) (todo : List ℕ) (plan : ℕ → ℕ) →
    plan_end P (r ∷ rows) todo plan ≡ max (end_of P r.who r.at) (plan_end P rows todo plan)
unfolding plan_end
plan_end_row P r rows [] plan = top_cons P r rows
plan_end_row P r rows (i ∷ todo) plan = omega (arith, plan_end_row P r rows todo plan)

-- a demand just placed counts with its end
pub plan_end_place : (P : Problem) (rows : List Row) (i : ℕ) (todo : List ℕ) (plan : ℕ → ℕ) →
    plan_end P (place P rows i) todo plan ≡ max (end_of P i (lowest P rows i)) (plan_end P rows todo plan)
plan_end_place P rows i todo plan = rw place_is (plan_end_row P (record { who = i; at = lowest P rows i }) rows todo plan)

-- no demand of a plan ends above the plan's end
pub plan_end_above : (P : Problem) (rows : List Row) (todo : List ℕ) (plan : ℕ → ℕ) (i : ℕ) → Memᴰ i todo →
    end_of P i (plan i) ≤ plan_end P rows todo plan
plan_end_above P rows [] plan i m = absurd (Memᴰ.not-nil m)
plan_end_above P rows (j ∷ todo) plan i m =
    rw plan_end-cons
    (⊎_elim
    (λ (e : i ≡ j). rw e (omega arith))
    (λ (n : Memᴰ i todo). omega (arith, plan_end_above P rows todo plan i n))
    (Memᴰ.cases_cons m))

-- no row that stands ends above the plan's end
pub plan_end_rows : (P : Problem) (rows : List Row) (todo : List ℕ) (plan : ℕ → ℕ) → top P rows ≤ plan_end P rows todo plan
unfolding plan_end
plan_end_rows P rows [] plan = omega arith
plan_end_rows P rows (i ∷ todo) plan = omega (arith, plan_end_rows P rows todo plan)

-- a number that no demand of a plan and no row ends above is at least the plan's end
pub plan_end_least : (P : Problem) (rows : List Row) (todo : List ℕ) (plan : ℕ → ℕ) (e : ℕ) → top P rows ≤ e →
    ((i : ℕ) → Memᴰ i todo → end_of P i (plan i) ≤ e) → plan_end P rows todo plan ≤ e
unfolding plan_end
plan_end_least P rows [] plan e h k = h
plan_end_least P rows (i ∷ todo) plan e h k =
    omega (arith, k i (Memᴰ.head refl), plan_end_least P rows todo plan e h (λ j m. k j (Memᴰ.tail m)))
