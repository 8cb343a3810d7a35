-- The rows of an order are read back, whatever the order.
use Prim.Native.Nat.{ℕ, zero, suc, ◌+◌, ◌≤◌, ◌<◌}
use Rattle.std.specs.Prelude.{Bool, true, false, ◌||◌, ◌≡◌, refl, eqb, drop, Ok}
use mathlib.Core.List.Memᴰ
use mathlib.Core.List.{List, [], ◌∷◌, Memᴰ}
use Rattle.std.proofs.Math.Logic.{⊎_elim}
use Rattle.std.proofs.Common.{sym, subst, ◌∙◌, arith, ne_eqb, eqb-true}
use Rattle.std.proofs.Math.Path.{ap}
use Rattle.std.proofs.Math.ListN.{length}
use Rattle.std.proofs.lemmas.Bool.{eqb-false}
use Rattle.theory.proofs.ArrangeLaws.{no_repeats_first, no_repeats_rest}
use Rattle.theory.specs.Earlier.{NoRepeats}
use Rattle.theory.specs.Problem.{Row, start_in}
use Rattle.fields.specs.FieldLaws.{left_over, field_sound}
use Rattle.request.specs.RoundTrip.{Idents16}
use Rattle.request.specs.Sound.{SoundRequest}
use Rattle.theory.proofs.TestLaws.{by_test}
use Rattle.request.specs.View.{View, demand_at, width_of}
use Rattle.meeting.specs.Plan.{start_at}
use Rattle.planfile.proofs.PlanPackingLaws.{row_end}
use Rattle.planfile.specs.PlanReading.{given, row_in, check_new_row, check_row, read_rows}
use Rattle.planfile.proofs.PlanReadingLaws.{row_sound, row_decides, rows_end, rows_more}
use Rattle.planfile.specs.RoundTrip.{rows_in_order}
use Rattle.planfile.specs.inner.RowsInFile.{RowsOf, RowsBack}
use Rattle.planfile.proofs.RowsInFileLaws.{row_there, ident_found, given_new, given_still, given_cases, start_new, start_still}

-- the starts that rows give are still the ones written after a row with its own
rows_of_more : (starts : List ℕ) (rows : List Row) (k : ℕ) → RowsOf starts rows → RowsOf starts (record { who = k; at = start_at starts k } ∷ rows)
rows_of_more starts rows k same j h =
    let r : Row = record { who = k; at = start_at starts k } in
    by_test (eqb k j)
    (λ t. let here = eqb-true k j t in ap (start_in (r ∷ rows)) (sym here) ∙ (start_new rows r ∙ ap (start_at starts) here))
    (λ f. let differ = eqb-false k j f in
    start_still rows r j differ ∙ same j (⊎_elim (λ (e : j ≡ k). absurd (differ (sym e))) (λ later. later) (given_cases rows r j h)))

module _ (v : View) (sound : SoundRequest v) (counted : length v.demands ≡ v.demand_count) (named : Idents16 v) (slots : v.band.slots < 65536)
    (starts : List ℕ) (ends : (k : ℕ) → k < v.demand_count → start_at starts k + width_of (demand_at v.demands k) ≤ v.band.slots) where
  -- the rows of an order are read back, whatever the order
  pub rows_back : (order : List ℕ) (left : ℕ) (s : List ℕ) (at : ℕ) (rows : List Row) → length order < left → at ≤ length s →
      drop at s ≡ rows_in_order v starts order → NoRepeats order → ((k : ℕ) → Memᴰ k order → k < v.demand_count) →
      ((k : ℕ) → Memᴰ k order → given rows k ≡ false) → RowsBack v s left at rows starts order
  unfolding rows_in_order row_in given
  rows_back [] zero s at rows fuel within e once listed new = absurd (omega arith)
  rows_back [] (suc left) s at rows fuel within e once listed new =
      let none = left_over s at [] e in
      record {
        out = rows;
        read = rows_end v s at rows left (omega arith);
        has_order = λ k m. absurd (Memᴰ.not-nil m);
        has_rows = λ k h. h;
        starts_kept = λ same. same;
      }
  rows_back (k ∷ order) zero s at rows fuel within e once listed new = absurd (omega arith)
  rows_back (k ∷ order) (suc left) s at rows fuel within e once listed new =
      let r : Row = record { who = k; at = start_at starts k } in
      let below : k < v.demand_count = listed k (Memᴰ.head refl) in
      let end = ends k below in
      let there = row_there s at (demand_at v.demands k).ident (start_at starts k) (rows_in_order v starts order) within e
      (named.each k (omega arith)) (omega arith) in
      let field = there.sound_field in
      let after = row_end s at field in
      let same : row_in v s at ≡ r = rw (there.ident_read, there.start_read, ident_found v sound counted k below) in
      let passes : check_row v s at rows ≡ Ok tt =
      row_decides v s at rows (field_sound s at 4 4 4 field)
      ∙ (ap (check_new_row v at rows) same ∙ row_sound v at rows r (omega arith) (new k (Memᴰ.head refl)) end) in
      let rest = rows_back order left s (at + 7) (r ∷ rows) (omega arith) after.1 there.behind (no_repeats_rest k order once)
      (λ j m. listed j (Memᴰ.tail m))
      (λ j m. ap (λ (b : Bool). b || given rows j) (ne_eqb k j (λ (z : k ≡ j). no_repeats_first k order once (Memᴰ.cast z m))) ∙ new j (Memᴰ.tail m)) in
      record {
        out = rest.out;
        read =
            rows_more v s at rows left (λ (z : at ≡ length s). omega (arith, after.1)) passes
            ∙ (ap (λ (n : ℕ). read_rows left v s n (row_in v s at ∷ rows)) after.0
            ∙ (ap (λ (x : Row). read_rows left v s (at + 7) (x ∷ rows)) same ∙ rest.read));
        has_order = λ j m.
            ⊎_elim
            (λ (z : j ≡ k). rest.has_rows j (subst (λ (n : ℕ). given (r ∷ rows) n ≡ true) (sym z) (given_new rows r)))
            (rest.has_order j) (Memᴰ.cases_cons m);
        has_rows = λ j h. rest.has_rows j (given_still rows r j h);
        starts_kept = λ kept. rest.starts_kept (rows_of_more starts rows k kept);
      }
