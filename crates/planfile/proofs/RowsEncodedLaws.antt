-- What was read as rows is the rows of an order.
use Prim.Native.Nat.{ℕ, zero, suc, ◌+◌, ◌≤◌, ◌<◌}
use Rattle.std.specs.Prelude.{Bool, true, false, refl, eqb, length, Ok}
use Rattle.std.proofs.Math.Bool.{cond}
use mathlib.Core.List.Memᴰ
use mathlib.Core.List.{List, [], ◌∷◌, ◌++◌, Memᴰ}
use Rattle.std.proofs.Math.Logic.{inl, inr, ⊎_elim}
use Rattle.std.proofs.Math.Path.{◌≡◌, ap, subst}
use Rattle.std.proofs.Common.{sym, ◌∙◌, arith}
use Rattle.std.proofs.Math.ListN.{drop_of_length-le}
use borrow.Author.Tests.{eqb-true}
use Rattle.theory.specs.Arrange.{Arrange}
use Rattle.theory.proofs.ArrangeLaws.{mem_split, mem_wider, mem_cases, no_repeats_first, no_repeats_rest, no_repeats_with, no_repeats_middle}
use Rattle.theory.specs.Earlier.{NoRepeats}
use Rattle.theory.specs.Problem.{Row, start_in}
use Rattle.request.proofs.CheckLaws.{first_sound}
use Rattle.fields.specs.inner.Holds.{FieldHolds}
use Rattle.fields.specs.Field.{number16, field_end, check_field}
use Rattle.request.specs.View.{idents, View, demand_at}
use Rattle.fields.specs.FieldLaws.{field_holds}
use Rattle.request.specs.RoundTrip.{Bytes}
use Rattle.theory.proofs.TestLaws.{by_test, not_both}
use Rattle.meeting.specs.Plan.{start_at}
use Rattle.planfile.specs.PlanFile.{row_field}
use Rattle.request.proofs.ViewLaws.{idents_length, ident_at}
use Rattle.planfile.proofs.PlanPackingLaws.{row_end}
use Rattle.planfile.specs.PlanReading.{position_of, given, row_in, check_new_row, check_row, rows_read, next_rows, read_rows}
use Rattle.planfile.proofs.PlanReadingLaws.{rows_end}
use Rattle.planfile.proofs.PlanRowsLaws.{row_holds, next_passed}
use Rattle.planfile.specs.RoundTrip.{rows_in_order}
use Rattle.planfile.specs.inner.RowsInFile.{NewRowHolds, RowsEncoded}
use Rattle.planfile.proofs.RowsInFileLaws.{row_written, position_found, given_new, given_still, given_cases, given_none, start_new, start_still}

-- a list with the elements of another, both with none twice, is an order of it
pub arrange_same : (order todo : List ℕ) → NoRepeats order → NoRepeats todo → ((j : ℕ) → Memᴰ j order → Memᴰ j todo) →
    ((j : ℕ) → Memᴰ j todo → Memᴰ j order) → Arrange order todo
unfolding Arrange
arrange_same [] [] once single there back = refl
arrange_same [] (i ∷ todo) once single there back = absurd (Memᴰ.not-nil (back i (Memᴰ.head refl)))
arrange_same (i ∷ order) todo once single there back =
    let (before, after, split) = mem_split todo i (there i (Memᴰ.head refl)) in
    let rest = no_repeats_middle before i after (subst NoRepeats split single) in (
      before,
      after,
      split,
      arrange_same order (before ++ after) (no_repeats_rest i order once) rest.1
          (λ j m.
          ⊎_elim
          (λ (e : j ≡ i). absurd (no_repeats_first i order once (Memᴰ.cast (sym e) m)))
          (λ k. k)
          (mem_cases before i after j (rw split at (there j (Memᴰ.tail m)))))
          (λ j m.
          ⊎_elim
          (λ (e : j ≡ i). absurd (rest.0 (Memᴰ.cast (sym e) m)))
          (λ k. k)
          (Memᴰ.cases_cons (back j (subst (λ (l : List ℕ). Memᴰ j l) (sym split) (mem_wider before i after j m))))),
    )

-- a sound row is sound as a field
pub row_field_lem : (v : View) (s : List ℕ) (at : ℕ) (rows : List Row) → check_row v s at rows ≡ Ok tt → FieldHolds s at 4 4 4
unfolding check_row
row_field_lem v s at rows h = field_holds s at 4 4 4 (first_sound (check_field s at 4 4 4) (check_new_row v at rows (row_in v s at)) h)

-- the ident of a row is that of its demand
row_ident : (v : View) (s : List ℕ) (at : ℕ) → (row_in v s at).who < length v.demands → (demand_at v.demands (row_in v s at).who).ident ≡ number16 s (at + 3)
unfolding row_in
row_ident v s at below =
    let x = number16 s (at + 3) in
    let all = idents v.demands in
    sym (ident_at v.demands (position_of x all)) ∙ position_found x all (omega (arith, idents_length v.demands))

module _ (v : View) (counted : length v.demands ≡ v.demand_count) (s : List ℕ) (bytes : Bytes s) (out : List Row) (starts : List ℕ)
    (given-starts : (k : ℕ) → k < v.demand_count → start_at starts k ≡ start_in out k) where
  -- a sound row in front of what was read as the rows of an order
  row_before : (at : ℕ) (rows : List Row) → FieldHolds s at 4 4 4 → NewRowHolds v rows (row_in v s at) →
      RowsEncoded v s (at + 7) (row_in v s at ∷ rows) out starts → RowsEncoded v s at rows out starts
  unfolding rows_in_order row_in
  row_before at rows field holds rest =
      let r = row_in v s at in
      let own : start_at starts r.who ≡ number16 s (at + 5) =
      given-starts r.who (omega (arith, holds.listed)) ∙ (rest.kept r.who (given_new rows r) ∙ start_new rows r) in
      record {
        order = r.who ∷ rest.order;
        encoded =
            row_written s at bytes field
            ∙ (ap (λ (l : List ℕ). row_field (number16 s (at + 3)) (number16 s (at + 5)) ++ l) rest.encoded
            ∙ (ap (λ (n : ℕ). row_field n (number16 s (at + 5)) ++ rows_in_order v starts rest.order) (sym (row_ident v s at holds.listed))
            ∙ ap (λ (n : ℕ). row_field (demand_at v.demands r.who).ident n ++ rows_in_order v starts rest.order) (sym own)));
        once = no_repeats_with r.who rest.order (λ m. not_both {C = ⊥} (given (r ∷ rows) r.who) (given_new rows r) (rest.new r.who m)) rest.once;
        new = λ k m.
            ⊎_elim
            (λ (z : k ≡ r.who). subst (λ (n : ℕ). given rows n ≡ false) (sym z) holds.first)
            (λ later. (given_none rows r k (rest.new k later)).0) (Memᴰ.cases_cons m);
        listed = λ k m. ⊎_elim (λ (z : k ≡ r.who). omega (arith, holds.listed)) (rest.listed k) (Memᴰ.cases_cons m);
        has = λ k g.
            ⊎_elim
            (λ before. ⊎_elim (λ (z : k ≡ r.who). inr (Memᴰ.head z)) inl (given_cases rows r k before))
            (λ later. inr (Memᴰ.tail later)) (rest.has k g);
        kept = λ k g.
            rest.kept k (given_still rows r k g)
            ∙ start_still rows r k (λ (z : r.who ≡ k). not_both {C = ⊥} (given rows k) g (subst (λ (n : ℕ). given rows n ≡ false) z holds.first));
      }

  -- what was read as rows is the rows of an order
  pub rows_encoded : (left at : ℕ) (rows : List Row) → at ≤ length s → read_rows left v s at rows ≡ rows_read out → RowsEncoded v s at rows out starts
  unfolding read_rows rows_in_order NoRepeats
  rows_encoded zero at rows within h = absurd (let z : ◌≡◌ {A = ℕ} 0 1 = cc in omega arith)
  rows_encoded (suc left) at rows within h =
      by_test (eqb at (length s))
      (λ t.
      let last = eqb-true at (length s) t in
      let all : rows ≡ out = all_read rows out (sym (rows_end v s at rows left last) ∙ h) in
      record {
        order = [];
        encoded = drop_of_length-le s {i = at} (omega arith);
        once = tt;
        new = λ k m. absurd (Memᴰ.not-nil m);
        listed = λ k m. absurd (Memᴰ.not-nil m);
        has = λ k g. inl (subst (λ (l : List Row). given l k ≡ true) (sym all) g);
        kept = λ k g. ap (λ (l : List Row). start_in l k) (sym all);
      })
      (λ f.
      let r = row_in v s at in
      let passed = next_passed (check_row v s at rows) (read_rows left v s (field_end s at) (r ∷ rows)) out
      (sym (ap (λ (b : Bool). cond b (rows_read rows) (next_rows (check_row v s at rows) (read_rows left v s (field_end s at) (r ∷ rows)))) f) ∙ h) in
      let field = row_field_lem v s at rows passed.0 in
      let after = row_end s at field in
      row_before at rows field (row_holds v s at rows passed.0)
      (rows_encoded left (at + 7) (r ∷ rows) after.1 (ap (λ (n : ℕ). read_rows left v s n (r ∷ rows)) (sym after.0) ∙ passed.1)))
    where
      all_read : (a b : List Row) → rows_read a ≡ rows_read b → a ≡ b
      all_read a b e = cc
