use Rattle.std.proofs.Common.{ℕ, ◌≡◌, ◌<◌, length, take, true, false, Option, Some, None, Ok, Err, subst, refl, sym, ap, ◌∙◌, arith, rules, length-set, leb-true, leb-false}
use Rattle.std.specs.Option.{ok_or}
use Rattle.std.proofs.lemmas.List.{length-map}
use Rattle.refusal.specs.declared.Refusal.{Refusal}
use Rattle.refusal.specs.declared.Refusal.TheVariants.{UnknownIdent, IdentSeen, EndAbove}
use Rattle.request.specs.View.{DemandView, view, view_demand, demand_at, no_entry, no_demand, width_of}
use Rattle.request.proofs.ViewLaws.{demands_shown, map_at}
use Rattle.fields.specs.FieldLaws.{field_holds}
use Rattle.planfile.specs.PlanReading.{given, row_in}
use Rattle.planfile.proofs.PlanReadingLaws.{field_refuses, row_decides, row_unknown, row_seen, row_above, row_sound}
use Rattle.planfile.proofs.PlanPackingLaws.{given_at, row_place, row_no_place, row_end, so_far_begin, so_far_fault, so_far_read, so_far_more}
use Rattle.planfile.proofs.read.read_rows.Goals as goal

-- what is below a number is not that number
below : (x y : ℕ) → x < y → x ≡ y → ⊥
below x y h e = omega arith

-- what an answer of `ok_or` says of the place
no_place : (place : Option ℕ) (fault why : Refusal) → ok_or place fault ≡ Err why → (place ≡ None) × (fault ≡ why)
no_place None fault why h = (refl, cc)
no_place (Some who) fault why h = absurd (let z : ◌≡◌ {A = ℕ} 0 1 = cc in omega arith)

place : (place : Option ℕ) (fault : Refusal) (who : ℕ) → ok_or place fault ≡ Ok who → place ≡ Some who
place None fault who h = absurd (let z : ◌≡◌ {A = ℕ} 0 1 = cc in omega arith)
place (Some own) fault who h = cc

pub loop-at-init : goal.loop-at-init
loop-at-init c = (so_far_begin (view c.args.request) c.args.file.now, refl)

pub returns-in_err-check_field : goal.returns-in_err-check_field
returns-in_err-check_field c =
    let v = view c.args.request in
    let s = c.args.file.now in
    let at = c.loop-at.at in
    let so_far = c.loop-at.invariant.0 in
    let more = below at (length s) c.loop-at-test.true in
    let fault = so_far_fault v s at c.loop-at.rows c.requires.file_len_bound so_far _ more
    (field_refuses v s at so_far.rows _ (sym c.check_field.ensures ∙ c.in_err-check_field.was)) in
    search (rules, fault)

pub overflow_add-at : goal.overflow_add-at
overflow_add-at c =
    let field = sym c.check_field.ensures ∙ c.in_ok-check_field.was in
    let ends = row_end c.args.file.now c.loop-at.at (field_holds c.args.file.now c.loop-at.at 4 4 4 field) in
    omega (arith, ends)

pub returns-in_err-who : goal.returns-in_err-who
unfolding view
returns-in_err-who c =
    let v = view c.args.request in
    let s = c.args.file.now in
    let at = c.loop-at.at in
    let so_far = c.loop-at.invariant.0 in
    let more = below at (length s) c.loop-at-test.true in
    let field = sym c.check_field.ensures ∙ c.in_ok-check_field.was in
    let none = no_place _ (UnknownIdent at) _ (sym c.ok_or.ensures.value ∙ c.in_err-who.was) in
    let fault = so_far_fault v s at c.loop-at.rows c.requires.file_len_bound so_far (UnknownIdent at) more
    (row_decides v s at so_far.rows field ∙ row_unknown v at so_far.rows (row_in v s at) (row_no_place v s at _ c.number_in.ensures (sym c.place_of.ensures.value ∙ none.0))) in
    let told = ap Err (sym none.1) ∙ fault in
    search (rules, told)

pub returns-then-is_some : goal.returns-then-is_some
unfolding view
returns-then-is_some c =
    let v = view c.args.request in
    let s = c.args.file.now in
    let at = c.loop-at.at in
    let so_far = c.loop-at.invariant.0 in
    let more = below at (length s) c.loop-at-test.true in
    let field = sym c.check_field.ensures ∙ c.in_ok-check_field.was in
    let found = place _ _ c.in_ok-who.who (sym c.ok_or.ensures.value ∙ c.in_ok-who.was) in
    let row = row_place (view c.args.request) c.args.file.now c.loop-at.at _ _ c.number_in.ensures (sym c.place_of.ensures.value ∙ found) in
    let shown = demands_shown c.args.request in
    let seen = subst (λ (k : ℕ). given so_far.rows k ≡ true) (sym row.0)
    (given_at so_far.rows c.loop-at.rows c.in_ok-who.who true so_far.held (omega (arith, row.1)) (sym c.is_some.ensures ∙ c.if-is_some.true)) in
    so_far_fault v s at c.loop-at.rows c.requires.file_len_bound so_far (IdentSeen at) more
    (row_decides v s at so_far.rows field ∙ row_seen v at so_far.rows (row_in v s at) (omega (arith, row.0, row.1)) seen)

pub overflow_add-at-in-loop-at : goal.overflow_add-at-in-loop-at
overflow_add-at-in-loop-at c =
    let field = sym c.check_field.ensures ∙ c.in_ok-check_field.was in
    let ends = row_end c.args.file.now c.loop-at.at (field_holds c.args.file.now c.loop-at.at 4 4 4 field) in
    omega (arith, ends)

pub returns-then-not-end_within : goal.returns-then-not-end_within
unfolding view demand_at row_in
returns-then-not-end_within c =
    let v = view c.args.request in
    let s = c.args.file.now in
    let at = c.loop-at.at in
    let so_far = c.loop-at.invariant.0 in
    let more = below at (length s) c.loop-at-test.true in
    let field = sym c.check_field.ensures ∙ c.in_ok-check_field.was in
    let found = place _ _ c.in_ok-who.who (sym c.ok_or.ensures.value ∙ c.in_ok-who.was) in
    let row = row_place (view c.args.request) c.args.file.now c.loop-at.at _ _ c.number_in.ensures (sym c.place_of.ensures.value ∙ found) in
    let shown = demands_shown c.args.request in
    let ds = take c.args.request.demand_count c.args.request.demands in
    let width = ap (λ (d : DemandView). width_of d) (ap (demand_at v.demands) row.0 ∙ map_at view_demand ds c.in_ok-who.who no_entry no_demand (omega (arith, row.1, length-map ds view_demand))) in
    let new = subst (λ (k : ℕ). given so_far.rows k ≡ false) (sym row.0)
    (given_at so_far.rows c.loop-at.rows c.in_ok-who.who false so_far.held (omega (arith, row.1)) (sym c.is_some.ensures ∙ c.if-is_some.false)) in
    let end = leb-false _ _ (sym c.end_within.ensures ∙ c.if-not-end_within.true) in
    so_far_fault v s at c.loop-at.rows c.requires.file_len_bound so_far (EndAbove at) more
    (row_decides v s at so_far.rows field
    ∙ row_above v at so_far.rows (row_in v s at) (omega (arith, row.0, row.1)) new (omega (arith, width, c.width_of.ensures, end, c.number_in-start.ensures)))

pub overflow_add-at-in-loop-at-2 : goal.overflow_add-at-in-loop-at-2
overflow_add-at-in-loop-at-2 c =
    let field = sym c.check_field.ensures ∙ c.in_ok-check_field.was in
    let ends = row_end c.args.file.now c.loop-at.at (field_holds c.args.file.now c.loop-at.at 4 4 4 field) in
    omega (arith, ends)

pub loop-at-smaller : goal.loop-at-smaller
loop-at-smaller c =
    let field = sym c.check_field.ensures ∙ c.in_ok-check_field.was in
    let ends = row_end c.args.file.now c.loop-at.at (field_holds c.args.file.now c.loop-at.at 4 4 4 field) in
    omega (arith, ends)

pub loop-at-preserved : goal.loop-at-preserved
unfolding view demand_at row_in
loop-at-preserved c =
    let v = view c.args.request in
    let s = c.args.file.now in
    let at = c.loop-at.at in
    let so_far = c.loop-at.invariant.0 in
    let more = below at (length s) c.loop-at-test.true in
    let field = sym c.check_field.ensures ∙ c.in_ok-check_field.was in
    let found = place _ _ c.in_ok-who.who (sym c.ok_or.ensures.value ∙ c.in_ok-who.was) in
    let row = row_place (view c.args.request) c.args.file.now c.loop-at.at _ _ c.number_in.ensures (sym c.place_of.ensures.value ∙ found) in
    let shown = demands_shown c.args.request in
    let ds = take c.args.request.demand_count c.args.request.demands in
    let width = ap (λ (d : DemandView). width_of d) (ap (demand_at v.demands) row.0 ∙ map_at view_demand ds c.in_ok-who.who no_entry no_demand (omega (arith, row.1, length-map ds view_demand))) in
    let new = subst (λ (k : ℕ). given so_far.rows k ≡ false) (sym row.0)
    (given_at so_far.rows c.loop-at.rows c.in_ok-who.who false so_far.held (omega (arith, row.1)) (sym c.is_some.ensures ∙ c.if-is_some.false)) in
    let end = leb-true _ _ (sym c.end_within.ensures ∙ c.if-not-end_within.false) in
    let ends = row_end s at (field_holds s at 4 4 4 field) in
    let sound = row_decides v s at so_far.rows field
    ∙ row_sound v at so_far.rows (row_in v s at) (omega (arith, row.0, row.1)) new (omega (arith, width, c.width_of.ensures, end, c.number_in-start.ensures)) in
    let next = so_far_more v s at c.loop-at.rows c.requires.file_len_bound so_far more sound ends.0 ends.1 (omega (arith, row.0, row.1)) in (
      rw (row.0, ← c.number_in-start.ensures) at next,
      simp length-set c.loop-at.invariant.1,
    )

pub returns : goal.returns
returns c =
    let v = view c.args.request in
    let s = c.args.file.now in
    let so_far = c.loop-at.invariant.0 in
    so_far_read v s c.loop-at.at c.loop-at.rows c.requires.file_len_bound so_far (omega (arith, so_far.within))
