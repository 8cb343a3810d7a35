-- First fit suffices: whatever an allowed plan reaches, first fit reaches in the order by start.
use Rattle.std.specs.Prelude.{ℕ, ◌≤◌, ◌≡◌, refl}
use mathlib.Core.List.Memᴰ
use mathlib.Core.List.{List, [], ◌∷◌, Memᴰ}
use Rattle.std.proofs.Common.{⊎_elim, ◌∙◌, arith}
use Rattle.theory.specs.Problem.{Problem, Row, end_of, lowest, place, fill, top, placed, first_fit, Allowed, plan_end, start_in}
use Rattle.theory.specs.Arrange.{Arrange}
use Rattle.theory.specs.Earlier.{NoRepeats}
use Rattle.theory.specs.inner.AsLow.{NeverFalling, AsLow}
use Rattle.theory.specs.ByStart.{ByStart}
use Rattle.theory.proofs.ApartLaws.{lowered_apart}
use Rattle.theory.proofs.ArrangeLaws.{arrange_mem, arrange_back, arrange_no_repeats, no_repeats_first, no_repeats_rest}
use Rattle.theory.proofs.ProblemLaws.{end_rises, lowest_least, place_with, fill_nil, fill_cons, start_first, plan_end-nil, plan_end-cons, plan_end_place}
use Rattle.theory.proofs.AllowedLaws.{allowed_part}
use Rattle.theory.proofs.FillLaws.{plan_end_arrange}
use Rattle.theory.proofs.FirstFitLaws.{first_fit-nil, first_fit_on}
use Rattle.theory.proofs.ByStartLaws.{by_start, by_start_rises}

-- the demand that starts first in an allowed plan has its lowest start no later than there
first_lower : (P : Problem) (S : ℕ) (rows : List Row) (i : ℕ) (order : List ℕ) (plan : ℕ → ℕ) → Allowed P S rows (i ∷ order) plan →
    lowest P rows i ≤ plan i
first_lower P S rows i order plan a = lowest_least P rows i (plan i) (a.clear_of_rows i (Memᴰ.head refl))

-- with the demand that starts first placed at its lowest start, the plan stays allowed for the others
first_placed : (P : Problem) (S : ℕ) (rows : List Row) (i : ℕ) (order : List ℕ) (plan : ℕ → ℕ) → NoRepeats (i ∷ order) →
    NeverFalling plan (i ∷ order) → ((j : ℕ) → Memᴰ j (i ∷ order) → 1 ≤ P.width j) → Allowed P S rows (i ∷ order) plan →
    Allowed P S (place P rows i) order plan
unfolding NeverFalling
first_placed P S rows i order plan once rising wide a =
    record {
      within = λ j m. a.within j (Memᴰ.tail m);
      clear_of_rows = λ j m.
          place_with P rows i j (plan j)
          (lowered_apart P i (lowest P rows i) (plan i) j (plan j)
          (a.clear_of_others i j (Memᴰ.head refl) (Memᴰ.tail m) (λ e. no_repeats_first i order once (Memᴰ.cast e m)))
          (first_lower P S rows i order plan a)
          (rising.0 j m)
          (wide j (Memᴰ.tail m)))
          (a.clear_of_rows j (Memᴰ.tail m));
      clear_of_others = λ j k mj mk ne. a.clear_of_others j k (Memᴰ.tail mj) (Memᴰ.tail mk) ne;
    }

-- what first fit has to show to do as well as a plan: a demand that starts no later ends no higher
as_low : (P : Problem) (S : ℕ) (rows : List Row) (todo : List ℕ) (plan : ℕ → ℕ) (order : List ℕ) →
    first_fit P S rows order ≡ placed (fill P rows order) →
    ((i : ℕ) → Memᴰ i todo → start_in (fill P rows order) i ≤ plan i) →
    top P (fill P rows order) ≤ plan_end P rows todo plan → AsLow P S rows todo plan order
as_low P S rows todo plan order e later h =
    record {
      not_refused = e;
      none_higher = λ i m. end_rises P i (start_in (fill P rows order) i) (plan i) (later i m);
      none_later = later;
      top_no_higher = h;
    }

-- along an order whose starts never fall first fit does as well as an allowed plan for that order
rising_as_low : (P : Problem) (S : ℕ) (rows : List Row) (order : List ℕ) (plan : ℕ → ℕ) → NoRepeats order →
    NeverFalling plan order → ((i : ℕ) → Memᴰ i order → 1 ≤ P.width i) → Allowed P S rows order plan →
    AsLow P S rows order plan order
unfolding NeverFalling
rising_as_low P S rows [] plan once rising wide a =
    as_low P S rows [] plan [] (rw fill_nil (first_fit-nil P S rows)) (λ i m. absurd (Memᴰ.not-nil m))
    (rw (fill_nil, plan_end-nil) (omega arith))
rising_as_low P S rows (i ∷ order) plan once rising wide a =
    let rest : AsLow P S (place P rows i) order plan order =
    rising_as_low P S (place P rows i) order plan (no_repeats_rest i order once) rising.1
    (λ j m. wide j (Memᴰ.tail m)) (first_placed P S rows i order plan once rising wide a) in
    let lower : lowest P rows i ≤ plan i = first_lower P S rows i order plan a in
    let no-higher : end_of P i (lowest P rows i) ≤ end_of P i (plan i) = end_rises P i (lowest P rows i) (plan i) lower in
    as_low P S rows (i ∷ order) plan (i ∷ order)
    (rw fill_cons
    (first_fit_on P S rows i order (omega (arith, a.within i (Memᴰ.head refl))) ∙ rest.not_refused))
    (λ j m.
    ⊎_elim
    (λ (e : j ≡ i). rw (e, start_first P rows i order (no_repeats_first i order once)) lower)
    (λ (n : Memᴰ j order). rw fill_cons (rest.none_later j n))
    (Memᴰ.cases_cons m))
    (rw (fill_cons, plan_end-cons) (omega (arith, rest.top_no_higher, plan_end_place P rows i order plan)))

-- in any order of the list along which a plan's starts never fall, first fit does as well as the plan
pub rising_suffices : (P : Problem) (S : ℕ) (rows : List Row) (todo : List ℕ) (plan : ℕ → ℕ) (order : List ℕ) →
    NoRepeats todo → ((i : ℕ) → Memᴰ i todo → 1 ≤ P.width i) → Allowed P S rows todo plan → Arrange order todo →
    NeverFalling plan order → AsLow P S rows todo plan order
rising_suffices P S rows todo plan order once wide a listed rising =
    let inside : (i : ℕ) → Memᴰ i order → Memᴰ i todo = arrange_mem order todo listed in
    let low : AsLow P S rows order plan order =
    rising_as_low P S rows order plan (arrange_no_repeats order todo listed once) rising (λ i m. wide i (inside i m))
    (allowed_part P S rows todo order plan inside a) in
    as_low P S rows todo plan order low.not_refused (λ i m. low.none_later i (arrange_back order todo listed i m))
    (rw (← plan_end_arrange P rows order todo plan listed) low.top_no_higher)

-- first fit suffices: in the order by start, equal starts as they stand in the list, it does as well as any allowed plan
pub first_fit_suffices : (P : Problem) (S : ℕ) (rows : List Row) (todo : List ℕ) (plan : ℕ → ℕ) (order : List ℕ) →
    NoRepeats todo → ((i : ℕ) → Memᴰ i todo → 1 ≤ P.width i) → Allowed P S rows todo plan → Arrange order todo →
    ByStart plan todo order → AsLow P S rows todo plan order
first_fit_suffices P S rows todo plan order once wide a listed by =
    rising_suffices P S rows todo plan order once wide a listed (by_start_rises plan todo order by)

-- for every allowed plan there is an order of the list in which first fit does as well
pub some_order_suffices : (P : Problem) (S : ℕ) (rows : List Row) (todo : List ℕ) (plan : ℕ → ℕ) →
    NoRepeats todo → ((i : ℕ) → Memᴰ i todo → 1 ≤ P.width i) → Allowed P S rows todo plan →
    (order : List ℕ) × Arrange order todo × ByStart plan todo order × AsLow P S rows todo plan order
some_order_suffices P S rows todo plan once wide a =
    let (order, listed, by) = by_start plan todo in
    (order, listed, by, first_fit_suffices P S rows todo plan order once wide a listed by)
