-- The check of starts accepts exactly the allowed plans.
use Rattle.std.specs.Prelude.{ℕ, zero, suc, ◌+◌, ◌-◌, ◌<◌, ◌≤◌, Bool, true, false, ◌≢◌, ◌≡◌, refl, length, ltb, Result, Ok, Err}
use Rattle.std.proofs.Math.Bool.{cond}
use mathlib.Core.List.{List, [], ◌∷◌}
use Rattle.std.proofs.Common.{ap, ◌∙◌}
use Rattle.std.proofs.Math.Path.{subst}
use native.Mathlib.Omega.{arith}
use borrow.Author.Tests.{ltb-true, ltb-false, lt-ltb, le-ltb, leb-true, le-leb}
use Rattle.refusal.specs.declared.Refusal.{Refusal}
use Rattle.refusal.specs.declared.Refusal.TheVariants.{NoRow, EndAbove, Clash}
use Rattle.grid.specs.Grid.{end_within}
use Rattle.theory.specs.Problem.{Problem, Row, end_of, apart, fits, Allowed}
use Rattle.theory.proofs.ProblemLaws.{fits_nil, fits_with, fits_first, fits_rest}
use Rattle.theory.proofs.ApartLaws.{apart_swap}
use Rattle.theory.proofs.TestLaws.{by_test}
use Rattle.theory.specs.Orders.{listing}
use Rattle.theory.proofs.ListingLaws.{listing_below, listing_mem}
use Rattle.request.specs.View.{DemandView, View, demand_at, width_of}
use Rattle.request.specs.Check.{then, must, check}
use Rattle.request.proofs.CheckLaws.{then_sound, then_refused, first_sound, next_sound, test_held}
use Rattle.request.specs.Sharing.{problem_of}
use Rattle.request.proofs.SoundLaws.{not_refused, passed}
use Rattle.meeting.specs.Plan.{start_at}
use Rattle.meeting.specs.PlanLaws.{share_swap}
use Rattle.plan.specs.CheckStarts.{check_count, check_end, check_ends, check_clash, check_clashes, check_places, check_starts}

-- two checks that pass, pass one after the other
pub both_sound : (a b : Result Unit Refusal) → a ≡ Ok tt → b ≡ Ok tt → then a b ≡ Ok tt
both_sound a b h k = then_sound a b h ∙ k

-- a check that refuses where a test is false passes where it is true
pub passes_if : (t : Bool) (why : Refusal) → t ≡ true → cond {A = Result Unit Refusal} t (Ok tt) (Err why) ≡ Ok tt
passes_if t why h = rw h

-- a check that refuses where a test is true passes where it is false
pub passes_unless : (t : Bool) (why : Refusal) → t ≡ false → cond {A = Result Unit Refusal} t (Err why) (Ok tt) ≡ Ok tt
passes_unless t why h = rw h

-- 17 passes: each end is at most S
pub ends_within : (S : ℕ) (starts : List ℕ) (k : ℕ) (demands : List DemandView) → check_ends S starts k demands ≡ Ok tt →
    (p : ℕ) → p < length demands → start_at starts (k + p) + width_of (demand_at demands p) ≤ S
unfolding check_ends check_end demand_at
ends_within S starts k [] h p l = absurd (omega arith)
ends_within S starts k (d ∷ demands) h zero l =
    subst (λ (n : ℕ). start_at starts n + width_of d ≤ S) (omega arith)
    (leb-true (start_at starts k + width_of d) S
    (test_held (end_within S (start_at starts k) (width_of d)) (EndAbove k)
    (first_sound (check_end S starts k d) (check_ends S starts (k + 1) demands) h)))
ends_within S starts k (d ∷ demands) h (suc p) l =
    subst (λ (n : ℕ). start_at starts n + width_of (demand_at demands p) ≤ S) (omega arith)
    (ends_within S starts (k + 1) demands (next_sound (check_end S starts k d) (check_ends S starts (k + 1) demands) h) p (omega arith))

-- the same from the first position on
pub each_within : (S : ℕ) (starts : List ℕ) (demands : List DemandView) → check_ends S starts 0 demands ≡ Ok tt →
    (p : ℕ) → p < length demands → start_at starts p + width_of (demand_at demands p) ≤ S
each_within S starts demands h p l =
    subst (λ (n : ℕ). start_at starts n + width_of (demand_at demands p) ≤ S) (omega arith) (ends_within S starts 0 demands h p l)

-- each end is at most S: 17 passes
pub within_ends : (S : ℕ) (starts : List ℕ) (k : ℕ) (demands : List DemandView) →
    ((p : ℕ) → p < length demands → start_at starts (k + p) + width_of (demand_at demands p) ≤ S) → check_ends S starts k demands ≡ Ok tt
unfolding check_ends check_end must demand_at
within_ends S starts k [] h = refl
within_ends S starts k (d ∷ demands) h =
    both_sound (check_end S starts k d) (check_ends S starts (k + 1) demands)
    (passes_if (end_within S (start_at starts k) (width_of d)) (EndAbove k)
    (le-leb (start_at starts k + width_of d) S (subst (λ (n : ℕ). start_at starts n + width_of d ≤ S) (omega arith) (h 0 (omega arith)))))
    (within_ends S starts (k + 1) demands
    (λ p l. subst (λ (n : ℕ). start_at starts n + width_of (demand_at demands p) ≤ S) (omega arith) (h (suc p) (omega arith))))

-- 18 passes: each demand is clear of the rows, and apart from each later demand
pub clashes_none : (P : Problem) (starts : List ℕ) (rows : List Row) (k : ℕ) (demands : List DemandView) →
    check_clashes P starts rows k demands ≡ Ok tt → (p : ℕ) → p < length demands →
    (fits P rows (k + p) (start_at starts (k + p)) ≡ true)
    × ((q : ℕ) → p < q → q < length demands → apart P (k + p) (start_at starts (k + p)) (k + q) (start_at starts (k + q)) ≡ true)
unfolding check_clashes check_clash
clashes_none P starts rows k [] h p l = absurd (omega arith)
clashes_none P starts rows k (d ∷ demands) h zero l = (
  subst (λ (n : ℕ). fits P rows n (start_at starts n) ≡ true) (omega arith)
      (passed (fits P rows k (start_at starts k)) (Clash k) (first_sound (check_clash P starts rows k) (check_clashes P starts (here ∷ rows) (k + 1) demands) h)),
  λ q a b. subst (λ (n : ℕ). apart P n (start_at starts n) (k + q) (start_at starts (k + q)) ≡ true) (omega arith)
      (subst (λ (n : ℕ). apart P k (start_at starts k) n (start_at starts n) ≡ true) (omega arith)
      (fits_first P here rows (k + 1 + (q - 1)) (start_at starts (k + 1 + (q - 1)))
      (clashes_none P starts (here ∷ rows) (k + 1) demands
      (next_sound (check_clash P starts rows k) (check_clashes P starts (here ∷ rows) (k + 1) demands) h) (q - 1) (omega arith)).0)),
)
  where
    here : Row
    here = record { who = k; at = start_at starts k }
clashes_none P starts rows k (d ∷ demands) h (suc p) l =
    let later = clashes_none P starts (record { who = k; at = start_at starts k } ∷ rows) (k + 1) demands
    (next_sound (check_clash P starts rows k) (check_clashes P starts (record { who = k; at = start_at starts k } ∷ rows) (k + 1) demands) h) p (omega arith) in (
      subst (λ (n : ℕ). fits P rows n (start_at starts n) ≡ true) (omega arith)
          (fits_rest P (record { who = k; at = start_at starts k }) rows (k + 1 + p) (start_at starts (k + 1 + p)) later.0),
      λ q a b. subst (λ (n : ℕ). apart P n (start_at starts n) (k + q) (start_at starts (k + q)) ≡ true) (omega arith)
          (subst (λ (n : ℕ). apart P (k + 1 + p) (start_at starts (k + 1 + p)) n (start_at starts n) ≡ true) (omega arith)
          (later.1 (q - 1) (omega arith) (omega arith))),
    )

-- each demand is clear of the rows, and apart from each later demand: 18 passes
pub none_clash : (P : Problem) (starts : List ℕ) (rows : List Row) (k : ℕ) (demands : List DemandView) →
    ((p : ℕ) → p < length demands → fits P rows (k + p) (start_at starts (k + p)) ≡ true) →
    ((p q : ℕ) → p < q → q < length demands → apart P (k + p) (start_at starts (k + p)) (k + q) (start_at starts (k + q)) ≡ true) →
    check_clashes P starts rows k demands ≡ Ok tt
unfolding check_clashes check_clash
none_clash P starts rows k [] clear apart-each = refl
none_clash P starts rows k (d ∷ demands) clear apart-each =
    both_sound (check_clash P starts rows k) (check_clashes P starts (record { who = k; at = start_at starts k } ∷ rows) (k + 1) demands)
    (passes_if (fits P rows k (start_at starts k)) (Clash k)
    (subst (λ (n : ℕ). fits P rows n (start_at starts n) ≡ true) (omega arith) (clear 0 (omega arith))))
    (none_clash P starts (record { who = k; at = start_at starts k } ∷ rows) (k + 1) demands
    (λ p l. fits_with P (record { who = k; at = start_at starts k }) rows (k + 1 + p) (start_at starts (k + 1 + p))
    (subst (λ (n : ℕ). apart P k (start_at starts k) n (start_at starts n) ≡ true) (omega arith)
    (subst (λ (n : ℕ). apart P n (start_at starts n) (k + suc p) (start_at starts (k + suc p)) ≡ true) (omega arith)
    (apart-each 0 (suc p) (omega arith) (omega arith))))
    (subst (λ (n : ℕ). fits P rows n (start_at starts n) ≡ true) (omega arith) (clear (suc p) (omega arith))))
    (λ p q a b. subst (λ (n : ℕ). apart P n (start_at starts n) (k + 1 + q) (start_at starts (k + 1 + q)) ≡ true) (omega arith)
    (subst (λ (n : ℕ). apart P (k + suc p) (start_at starts (k + suc p)) n (start_at starts n) ≡ true) (omega arith)
    (apart-each (suc p) (suc q) (omega arith) (omega arith)))))

module _ (v : View) (starts : List ℕ) where
  -- a refused request is refused for the same
  pub request_refused_lem : (why : Refusal) → check v ≡ Err why → check_starts v starts ≡ Err why
  unfolding check_starts
  request_refused_lem why h = then_refused (check v) (then (check_count v.demand_count starts) (check_places v starts)) why h

  -- fewer starts than demands are refused with 16
  pub count_refused : check v ≡ Ok tt → length starts < v.demand_count → check_starts v starts ≡ Err (NoRow (length starts))
  unfolding check_starts check_count
  count_refused sound few =
      then_sound (check v) (then (check_count v.demand_count starts) (check_places v starts)) sound ∙
      then_refused (check_count v.demand_count starts) (check_places v starts) (NoRow (length starts))
      (ap (λ (b : Bool). cond b (Err (NoRow (length starts))) (Ok tt)) (lt-ltb (length starts) v.demand_count few))

  -- then it is 17 and 18 that decide
  pub places_decide : check v ≡ Ok tt → v.demand_count ≤ length starts → check_starts v starts ≡ check_places v starts
  unfolding check_starts check_count
  places_decide sound enough =
      then_sound (check v) (then (check_count v.demand_count starts) (check_places v starts)) sound ∙
      then_sound (check_count v.demand_count starts) (check_places v starts)
      (passes_unless (ltb (length starts) v.demand_count) (NoRow (length starts)) (le-ltb (length starts) v.demand_count enough))

  -- where 17 passes, 18 decides
  pub clashes_decide : check_ends v.band.slots starts 0 v.demands ≡ Ok tt →
      check_places v starts ≡ check_clashes (problem_of v) starts [] 0 v.demands
  unfolding check_places
  clashes_decide h =
      then_sound (check_ends v.band.slots starts 0 v.demands) (check_clashes (problem_of v) starts [] 0 v.demands) h

  -- where all pass, each has passed
  pub each_passed : check_starts v starts ≡ Ok tt →
      (check v ≡ Ok tt) × (v.demand_count ≤ length starts) × (check_ends v.band.slots starts 0 v.demands ≡ Ok tt) × (check_places v starts ≡ Ok tt)
  unfolding check_starts check_count check_places
  each_passed h =
      let ends = check_ends v.band.slots starts 0 v.demands in
      let clashes = check_clashes (problem_of v) starts [] 0 v.demands in
      let counted = next_sound (check v) (then (check_count v.demand_count starts) (then ends clashes)) h in
      let placed = next_sound (check_count v.demand_count starts) (then ends clashes) counted in (
        first_sound (check v) (then (check_count v.demand_count starts) (then ends clashes)) h,
        ltb-false (length starts) v.demand_count
            (not_refused (ltb (length starts) v.demand_count) (NoRow (length starts)) (first_sound (check_count v.demand_count starts) (then ends clashes) counted)),
        first_sound ends clashes placed,
        placed,
      )

module _ (v : View) (starts : List ℕ) (counted : length v.demands ≡ v.demand_count) where
  -- 17 and 18 pass: the plan is allowed by its ends and starts
  pub places_allowed : check_places v starts ≡ Ok tt →
      Allowed (problem_of v) v.band.slots [] (listing v.demand_count) (start_at starts)
  unfolding check_places problem_of end_of
  places_allowed h =
      record {
        within = λ i m. each_within v.band.slots starts v.demands
            (first_sound (check_ends v.band.slots starts 0 v.demands) (check_clashes (problem_of v) starts [] 0 v.demands) h)
            i (omega (arith, listing_below v.demand_count i m));
        clear_of_rows = λ i m. fits_nil (problem_of v) i (start_at starts i);
        clear_of_others = λ i j m n different.
            by_test (ltb i j)
            (λ t. ordered i j (ltb-true i j t) (listing_below v.demand_count j n))
            (λ f. apart_swap (problem_of v) i (start_at starts i) j (start_at starts j) (share_swap (demand_at v.demands i).route (demand_at v.demands j).route)
            ∙ ordered j i (strictly i j different (ltb-false i j f)) (listing_below v.demand_count i m));
      }
    where
      strictly : (i j : ℕ) → i ≢ j → j ≤ i → j < i
      strictly i j different l = omega arith

      ordered : (i j : ℕ) → i < j → j < v.demand_count → apart (problem_of v) i (start_at starts i) j (start_at starts j) ≡ true
      ordered i j a b =
          subst (λ (n : ℕ). apart (problem_of v) n (start_at starts n) j (start_at starts j) ≡ true) (omega arith)
          (subst (λ (n : ℕ). apart (problem_of v) (0 + i) (start_at starts (0 + i)) n (start_at starts n) ≡ true) (omega arith)
          ((clashes_none (problem_of v) starts [] 0 v.demands
          (next_sound (check_ends v.band.slots starts 0 v.demands) (check_clashes (problem_of v) starts [] 0 v.demands) h)
          i (omega arith)).1 j a (omega arith)))

  -- the plan is allowed by its ends and starts: 17 and 18 pass
  pub allowed_places : Allowed (problem_of v) v.band.slots [] (listing v.demand_count) (start_at starts) →
      check_places v starts ≡ Ok tt
  unfolding check_places problem_of end_of
  allowed_places plan =
      both_sound (check_ends v.band.slots starts 0 v.demands) (check_clashes (problem_of v) starts [] 0 v.demands)
      (within_ends v.band.slots starts 0 v.demands
      (λ p l. subst (λ (n : ℕ). start_at starts n + width_of (demand_at v.demands p) ≤ v.band.slots) (omega arith)
      (plan.within p (listing_mem v.demand_count p (omega arith)))))
      (none_clash (problem_of v) starts [] 0 v.demands
      (λ p l. fits_nil (problem_of v) (0 + p) (start_at starts (0 + p)))
      (λ p q a b. subst (λ (n : ℕ). apart (problem_of v) n (start_at starts n) (0 + q) (start_at starts (0 + q)) ≡ true) (omega arith)
      (subst (λ (n : ℕ). apart (problem_of v) p (start_at starts p) n (start_at starts n) ≡ true) (omega arith)
      (plan.clear_of_others p q (listing_mem v.demand_count p (omega arith)) (listing_mem v.demand_count q (omega arith)) (omega arith)))))
