use Rattle.std.proofs.Common.{ℕ, List, ◌≡◌, set, get_or, take, map, true, false, Option, Some, None, is_some, unwrap_or, Result, Ok, Err, refl, sym, ap, ◌∙◌, arith, rules, length-set, take_all}
use Rattle.std.specs.Option.{ok_or}
use Rattle.std.proofs.lemmas.List.{get_or-map, length-map}
use Rattle.refusal.specs.declared.Refusal.{Refusal}
use Rattle.refusal.specs.declared.Refusal.TheVariants.{NoRow}
use Rattle.request.specs.Packing.{padded}
use Rattle.planfile.specs.inner.PlanPacking.{starts_if, all_given}
use Rattle.planfile.proofs.PlanReadingLaws.{given_passes, given_refused, given_done}
use Rattle.planfile.proofs.PlanPackingLaws.{padded_turn}
use Rattle.planfile.proofs.read.all_given.Goals as goal

-- what an answer of `ok_or` says of the option
missing : (row : Option ℕ) (fault why : Refusal) → ok_or row fault ≡ Err why → (is_some row ≡ false) × (fault ≡ why)
missing None fault why h = (refl, cc)
missing (Some start) fault why h = absurd (let z : ◌≡◌ {A = ℕ} 0 1 = cc in omega arith)

there : (row : Option ℕ) (fault : Refusal) (start : ℕ) → ok_or row fault ≡ Ok start → (is_some row ≡ true) × (unwrap_or row 0 ≡ start)
there None fault start h = absurd (let z : ◌≡◌ {A = ℕ} 0 1 = cc in omega arith)
there (Some own) fault start h = (refl, cc)

pub loop-k-init : goal.loop-k-init
unfolding padded
loop-k-init c = (refl, refl, refl)

pub returns-in_err-starts : goal.returns-in_err-starts
unfolding all_given starts_if
returns-in_err-starts c =
    let rows = c.args.rows.now in
    let k = c.loop-k.k in
    let marks = map is_some rows in
    let none = missing (get_or rows k None) (NoRow k) _ (sym c.ok_or.ensures.value ∙ c.in_err-starts.was) in
    let fault = c.loop-k.invariant.2 ∙ given_refused marks k (omega (arith, length-map rows is_some)) (get_or-map is_some rows k None false (omega arith) ∙ none.0) in
    let told = ap Err (sym none.1) ∙ sym (ap (λ (x : Result Unit Refusal). starts_if x (map (λ (row : Option ℕ). unwrap_or row 0) rows)) fault) in
    search (rules, told)

pub loop-k-preserved : goal.loop-k-preserved
loop-k-preserved c =
    let rows = c.args.rows.now in
    let k = c.loop-k.k in
    let marks = map is_some rows in
    let start : Option ℕ → ℕ = λ (row : Option ℕ). unwrap_or row 0 in
    let all = map start rows in
    let row = there (get_or rows k None) (NoRow k) c.in_ok-starts.field-0 (sym c.ok_or.ensures.value ∙ c.in_ok-starts.was) in
    let here = get_or-map start rows k None 0 (omega arith) ∙ row.1 in (
      simp length-set c.loop-k.invariant.0,
      ap (λ (l : List ℕ). set l k c.in_ok-starts.field-0) c.loop-k.invariant.1
          ∙ ap (λ (x : ℕ). set (padded 200 0 (take k all)) k x) (sym here) ∙ padded_turn all k (omega (arith, length-map rows start)) (omega (arith, c.requires)),
      c.loop-k.invariant.2 ∙ given_passes marks k (omega (arith, length-map rows is_some)) (get_or-map is_some rows k None false (omega arith) ∙ row.0),
    )

pub returns : goal.returns
unfolding all_given starts_if
returns c =
    let rows = c.args.rows.now in
    let k = c.loop-k.k in
    let marks = map is_some rows in
    let start : Option ℕ → ℕ = λ (row : Option ℕ). unwrap_or row 0 in
    let all = map start rows in
    let passed = c.loop-k.invariant.2 ∙ given_done marks k (omega (arith, length-map rows is_some)) in
    ap Ok (c.loop-k.invariant.1 ∙ ap (padded 200 0) (take_all k all (omega (arith, length-map rows start))))
    ∙ sym (ap (λ (x : Result Unit Refusal). starts_if x all) passed)
