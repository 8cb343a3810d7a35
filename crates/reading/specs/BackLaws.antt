-- The fields of sound links and demands are read as those links and demands.
use Rattle.std.specs.Prelude.{ℕ, zero, suc, ◌+◌, ◌≤◌, ◌<◌, Bool, true, false, cond, ◌||◌, List, [], ◌∷◌, ◌++◌, ◌≡◌, length, get_or, drop, ltb, eqb, Ok, Err}
use Rattle.std.proofs.Math.Bool.{or-true, and-false}
use Rattle.std.proofs.Common.{append_assoc, append-nil, sym, ap, ◌∙◌, arith, lt-ltb, eq-eqb, ne_eqb, length-append}
use Rattle.std.proofs.lemmas.Bool.{eqb-false}
use Rattle.refusal.specs.declared.Refusal.TheVariants.{BadLink}
use Rattle.request.specs.declared.Link.{Link}
use Rattle.request.specs.View.{DemandView, demand_at, idents, width_of}
use Rattle.request.specs.Check.{check_links, check_demand, check_demands}
use Rattle.request.proofs.CheckLaws.{first_sound, next_sound, width_allowed, hops_allowed}
use Rattle.request.proofs.SoundLaws.{not_refused, sound_passes}
use Rattle.request.specs.Encoding.{two_bytes, field, link_field, link_fields, demand_fields}
use Rattle.reading.specs.Reading.{link_in, check_link_field, demands_begin, demand_tag, check_new_demand, check_demand_field, links_end, links_read, read_links, demands_read, read_demands}
use Rattle.fields.specs.FieldLaws.{field_sound, byte_at, left_over}
use Rattle.reading.specs.LinksLaws.{link_sound, link_end, links_done, links_more}
use Rattle.request.proofs.ViewLaws.{idents_length, idents_more}
use Rattle.reading.specs.DemandsLaws.{demand_sound, demand_then, demand_end, demands_done, demands_more}
use Rattle.reading.specs.FieldLaws.{link_there, demand_there}
use Rattle.reading.specs.inner.Fields.{LinkThere}
use Rattle.reading.specs.AskedLaws.{asked_fits}

-- the links end where nothing follows, or a demand
ends_here : (s : List ℕ) (at : ℕ) (rest : List ℕ) → at ≤ length s → drop at s ≡ rest → demands_begin (get_or rest 0 3) ≡ true → eqb at (length s) || demands_begin (get_or s at 0) ≡ true
ends_here s at [] within e last =
    let done : at ≡ length s = let none = left_over s at [] e in omega arith in
    ap (λ (b : Bool). b || demands_begin (get_or s at 0)) (eq-eqb at (length s) done)
ends_here s at (x ∷ xs) within e last =
    rw (byte_at s at (x ∷ xs) e at 0 (omega arith), last) (or-true (eqb at (length s)))

-- where a link's field stands, the links do not end
goes_on : (s : List ℕ) (at count : ℕ) (l : Link) (rest : List ℕ) → LinkThere s at l rest → links_end s at count ≡ false
unfolding links_end demands_begin
goes_on s at count l rest there =
    let field = there.sound_field in
    let not_last : eqb at (length s) ≡ false = ne_eqb at (length s) (λ (z : at ≡ length s). omega arith) in
    let no-width : eqb (get_or s at 0) 3 ≡ false = ne_eqb (get_or s at 0) 3 (λ (z : get_or s at 0 ≡ 3). omega arith) in
    let no-rate : eqb (get_or s at 0) 5 ≡ false = ne_eqb (get_or s at 0) 5 (λ (z : get_or s at 0 ≡ 5). omega arith) in
    rw (not_last, no-width, no-rate) (and-false (ltb 0 count))

-- it is sound where there is room and its nodes differ
field_there : (s : List ℕ) (at count : ℕ) (l : Link) (rest : List ℕ) → LinkThere s at l rest → count < 64 → (l.from ≡ l.to → ⊥) → Ok tt ≡ check_link_field s at count
unfolding link_in
field_there s at count l rest there room differ =
    let field = there.sound_field in
    link_sound s at count (omega arith) (sym (field_sound s at 2 2 2 field)) room
    (λ (z : get_or s (at + 3) 0 ≡ get_or s (at + 4) 0).
    differ (sym (ap (λ (x : Link). x.from) there.same) ∙ z ∙ ap (λ (x : Link). x.to) there.same))

-- links are read back
pub links_back : (more : List Link) (left : ℕ) (s : List ℕ) (at : ℕ) (before : List Link) (rest : List ℕ) (k : ℕ) →
    length more < left → length before + length more ≤ 64 → 0 < length before + length more → at ≤ length s →
    drop at s ≡ link_fields more ++ rest → demands_begin (get_or rest 0 3) ≡ true → check_links k more ≡ Ok tt →
    read_links left s at before ≡ links_read (before ++ more) (at + length (link_fields more))
unfolding link_fields link_field field two_bytes check_links links_end
links_back [] zero s at before rest k fuel few some within e last sound = absurd (omega arith)
links_back [] (suc left) s at before rest k fuel few some within e last sound =
    let ended : links_end s at (length before) ≡ true = rw (lt-ltb 0 (length before) (omega arith)) (ends_here s at rest within e last) in
    let same : at + 0 ≡ at = omega arith in
    links_done left s at before ended ∙ rw (append-nil before, same)
links_back (l ∷ more) zero s at before rest k fuel few some within e last sound = absurd (omega arith)
links_back (l ∷ more) (suc left) s at before rest k fuel few some within e last sound =
    let there = link_there s at l (link_fields more ++ rest) within e in
    let field = there.sound_field in
    let differ : l.from ≡ l.to → ⊥ = eqb-false l.from l.to
    (not_refused (eqb l.from l.to) (BadLink k) (first_sound (cond (eqb l.from l.to) (Err (BadLink k)) (Ok tt)) (check_links (k + 1) more) sound)) in
    let grown = length-append before (l ∷ []) in
    let last-at : at + 5 + length (link_fields more) ≡ at + suc (suc (suc (suc (suc (length (link_fields more)))))) = omega arith in
    links_more left s at before (goes_on s at (length before) l (link_fields more ++ rest) there)
    (field_there s at (length before) l (link_fields more ++ rest) there (omega arith) differ) ∙
    rw (link_end s at field, there.same)
    (links_back more left s (at + 5) (before ++ (l ∷ [])) rest (k + 1) (omega arith) (omega arith) (omega arith) (omega arith) there.behind last
    (next_sound (cond (eqb l.from l.to) (Err (BadLink k)) (Ok tt)) (check_links (k + 1) more) sound) ∙
    rw (append_assoc before (l ∷ []) more, last-at))

-- demands are read back
pub demands_back : (more : List DemandView) (left S : ℕ) (links : List Link) (s : List ℕ) (at : ℕ) (before : List DemandView) (k : ℕ) →
    length more < left → length before + length more ≤ 200 → S < 65536 → at ≤ length s → drop at s ≡ demand_fields more →
    check_demands S links (idents before) k more ≡ Ok tt →
    ((j : ℕ) → j < length more → (demand_at more j).hops ≤ 32 → length (demand_at more j).route ≡ (demand_at more j).hops) →
    ((j : ℕ) → j < length more → (demand_at more j).ident < 65536) →
    read_demands left S links s at before ≡ demands_read (before ++ more)
unfolding demand_fields check_demands demand_at
demands_back [] zero S links s at before k fuel few slots within e sound counted named = absurd (omega arith)
demands_back [] (suc left) S links s at before k fuel few slots within e sound counted named =
    let none = left_over s at [] e in
    demands_done left S links s at before (omega arith) ∙ rw (append-nil before)
demands_back (d ∷ more) zero S links s at before k fuel few slots within e sound counted named = absurd (omega arith)
demands_back (d ∷ more) (suc left) S links s at before k fuel few slots within e sound counted named =
    let next = check_demands S links (idents before ++ (d.ident ∷ [])) (k + 1) more in
    let passes = sound_passes S links (idents before) k d (first_sound (check_demand S links (idents before) k d) next sound) in
    let width = width_allowed S (width_of d) passes.width_allowed in
    let hops = hops_allowed d.hops passes.hops_allowed in
    let there = demand_there s at d (demand_fields more) within e (named 0 (omega arith)) (asked_fits S d slots passes.asked_known width.1) (counted 0 (omega arith) hops.1) hops.0 hops.1 in
    let field = there.sound_field in
    let room : length (idents before) < 200 = omega (arith, idents_length before) in
    let good : Ok tt ≡ check_demand_field S links s at (idents before)
    = demand_then S links s at (idents before) (sym (field_sound s at (demand_tag s at) 5 36 field))
    (demand_sound S links (idents before) at d room passes.ident_new passes.asked_known passes.width_allowed passes.route_sound ∙
    ap (check_new_demand S links (idents before) at) (sym there.same)) in
    let grown = length-append before (d ∷ []) in
    demands_more left S links s at before (λ (z : at ≡ length s). omega arith) good ∙
    rw (demand_end s at field, there.same)
    (demands_back more left S links s (at + 7 + d.hops) (before ++ (d ∷ [])) (k + 1) (omega arith) (omega arith) slots there.end_within there.behind
    (rw (idents_more before d) (next_sound (check_demand S links (idents before) k d) next sound))
    (λ (j : ℕ) (h : j < length more). counted (suc j) (omega arith)) (λ (j : ℕ) (h : j < length more). named (suc j) (omega arith)) ∙
    rw (append_assoc before (d ∷ []) more))
