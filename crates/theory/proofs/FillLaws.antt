-- What first fit without a limit gives along an order is an allowed plan, and its top is the plan's end.
use Rattle.std.specs.Prelude.{ℕ, ◌≤◌, true, ◌≢◌, ◌≡◌}
use mathlib.Core.List.Memᴰ
use mathlib.Core.List.{List, [], ◌∷◌, ◌++◌, Memᴰ}
use Rattle.std.proofs.Common.{⊎_elim, sym, ◌∙◌, arith}
use Rattle.theory.specs.Problem.{Problem, Row, apart, fits, place, fill, top, Allowed, plan_end, start_in}
use Rattle.theory.specs.Arrange.{Arrange}
use Rattle.theory.specs.Earlier.{NoRepeats}
use Rattle.theory.proofs.ApartLaws.{apart_swap}
use Rattle.theory.proofs.ArrangeLaws.{arrange_back, arrange_no_repeats, no_repeats_first, no_repeats_rest}
use Rattle.theory.proofs.ProblemLaws.{lowest_fits, place_apart, place_rest, fill_nil, fill_cons, start_first, plan_end-nil, plan_end-cons, plan_end_middle, plan_end_place, plan_end_above}

-- a plan ends at the same place for a list and for each order of it
pub plan_end_arrange : (P : Problem) (rows : List Row) (order todo : List ℕ) (plan : ℕ → ℕ) → Arrange order todo →
    plan_end P rows order plan ≡ plan_end P rows todo plan
unfolding Arrange
plan_end_arrange P rows [] todo plan a = rw a
plan_end_arrange P rows (i ∷ order) todo plan a =
    let (before, after, split, rest) = a in
    rw (split, plan_end-cons, plan_end_middle P rows before i after plan, plan_end_arrange P rows order (before ++ after) plan rest)

-- over an order in which nothing stands twice the plan that a fill gives ends at the top of the fill
pub fill_end : (P : Problem) (rows : List Row) (order : List ℕ) → NoRepeats order →
    plan_end P rows order (start_in (fill P rows order)) ≡ top P (fill P rows order)
fill_end P rows [] n = rw (fill_nil, plan_end-nil)
fill_end P rows (i ∷ order) n =
    rw (plan_end-cons, start_first P rows i order (no_repeats_first i order n), fill_cons)
    (sym (plan_end_place P rows i order (start_in (fill P (place P rows i) order)))
    ∙ fill_end P (place P rows i) order (no_repeats_rest i order n))

-- each demand of a fill fits beside the rows that stood before
pub fill_clear : (P : Problem) (rows : List Row) (order : List ℕ) → NoRepeats order → (i : ℕ) → Memᴰ i order →
    fits P rows i (start_in (fill P rows order) i) ≡ true
fill_clear P rows [] n i m = absurd (Memᴰ.not-nil m)
fill_clear P rows (j ∷ order) n i m =
    ⊎_elim
    (λ (e : i ≡ j). rw (e, start_first P rows j order (no_repeats_first j order n)) (lowest_fits P rows j))
    (λ (k : Memᴰ i order).
    rw fill_cons
    (place_rest P rows j i (start_in (fill P (place P rows j) order) i)
    (fill_clear P (place P rows j) order (no_repeats_rest j order n) i k)))
    (Memᴰ.cases_cons m)

-- the first demand of a fill is apart from each demand placed after it
pub fill_apart : (P : Problem) (rows : List Row) (i : ℕ) (order : List ℕ) → NoRepeats (i ∷ order) → (j : ℕ) → Memᴰ j order →
    apart P i (start_in (fill P rows (i ∷ order)) i) j (start_in (fill P rows (i ∷ order)) j) ≡ true
fill_apart P rows i order n j m =
    rw (start_first P rows i order (no_repeats_first i order n), fill_cons)
    (place_apart P rows i j (start_in (fill P (place P rows i) order) j)
    (fill_clear P (place P rows i) order (no_repeats_rest i order n) j m))

-- two different demands of a fill are apart
pub fill_pairwise : (P : Problem) → ((i j : ℕ) → P.joined i j ≡ P.joined j i) → (rows : List Row) (order : List ℕ) → NoRepeats order →
    (i j : ℕ) → Memᴰ i order → Memᴰ j order → i ≢ j →
    apart P i (start_in (fill P rows order) i) j (start_in (fill P rows order) j) ≡ true
fill_pairwise P two_way rows [] n i j mi mj ne = absurd (Memᴰ.not-nil mi)
fill_pairwise P two_way rows (k ∷ order) n i j mi mj ne =
    ⊎_elim
    (λ (ei : i ≡ k).
    ⊎_elim
    (λ (ej : j ≡ k). absurd (ne (ei ∙ sym ej)))
    (λ (nj : Memᴰ j order). rw ei (fill_apart P rows k order n j nj))
    (Memᴰ.cases_cons mj))
    (λ (ni : Memᴰ i order).
    ⊎_elim
    (λ (ej : j ≡ k).
    rw ej
    (apart_swap P i (start_in (fill P rows (k ∷ order)) i) k (start_in (fill P rows (k ∷ order)) k) (two_way i k)
    ∙ fill_apart P rows k order n i ni))
    (λ (nj : Memᴰ j order).
    rw fill_cons (fill_pairwise P two_way (place P rows k) order (no_repeats_rest k order n) i j ni nj ne))
    (Memᴰ.cases_cons mj))
    (Memᴰ.cases_cons mi)

-- for an order of a list in which nothing stands twice the plan that a fill gives ends at the top of the fill
pub fill_plan_end : (P : Problem) (rows : List Row) (order todo : List ℕ) → Arrange order todo → NoRepeats todo →
    plan_end P rows todo (start_in (fill P rows order)) ≡ top P (fill P rows order)
fill_plan_end P rows order todo a n =
    sym (plan_end_arrange P rows order todo (start_in (fill P rows order)) a)
    ∙ fill_end P rows order (arrange_no_repeats order todo a n)

-- a fill along an order of a list in which nothing stands twice, if its top is within S, is an allowed plan for the list
pub fill_allowed : (P : Problem) → ((i j : ℕ) → P.joined i j ≡ P.joined j i) → (S : ℕ) (rows : List Row) (order todo : List ℕ) →
    Arrange order todo → NoRepeats todo → top P (fill P rows order) ≤ S → Allowed P S rows todo (start_in (fill P rows order))
fill_allowed P two_way S rows order todo a n h =
    let plan : ℕ → ℕ = start_in (fill P rows order) in
    let once : NoRepeats order = arrange_no_repeats order todo a n in
    record {
      within = λ i m. omega (arith, plan_end_above P rows todo plan i m, fill_plan_end P rows order todo a n);
      clear_of_rows = λ i m. fill_clear P rows order once i (arrange_back order todo a i m);
      clear_of_others = λ i j mi mj ne.
          fill_pairwise P two_way rows order once i j (arrange_back order todo a i mi) (arrange_back order todo a j mj) ne;
    }
