-- Links and demands that are read are sound, and the bytes they were read from are their fields.
use Rattle.std.specs.Prelude.{ℕ, zero, suc, ◌+◌, ◌-◌, ◌≤◌, ◌<◌, Bool, true, false, cond, List, [], ◌∷◌, ◌++◌, ◌≡◌, refl, length, drop, leb, ltb, eqb, Ok, Err}
use Rattle.std.proofs.Common.{append_assoc, append-nil, sym, ap, ◌∙◌, arith, ltb-true, le-leb, eqb-true, ne_eqb, length-append, drop_of_length-le}
use Rattle.std.proofs.lemmas.Bool.{eqb-false}
use Rattle.refusal.specs.declared.Refusal.{Refusal}
use Rattle.refusal.specs.declared.Refusal.TheVariants.{BadLink}
use Rattle.request.specs.declared.Link.{Link}
use Rattle.request.specs.View.{DemandView, demand_at, idents}
use Rattle.request.specs.Check.{allowed_hops, check_links, check_demand, check_demands}
use Rattle.theory.proofs.TestLaws.{by_test, and_first, and_both}
use Rattle.request.proofs.CheckLaws.{then_sound, next_sound, first_sound, demand_passes, by_check}
use Rattle.request.specs.Encoding.{link_field, demand_field, link_fields, demand_fields}
use Rattle.fields.specs.Field.{number16, body_length, check_field}
use Rattle.reading.specs.Reading.{link_in, check_link_field, demand_tag, demand_in, check_new_demand, check_demand_field, links_end, links_refused, links_read, read_links, demands_refused, demands_read, read_demands}
use Rattle.fields.specs.FieldLaws.{field_holds, field_within}
use Rattle.reading.specs.LinksLaws.{link_holds, link_end, links_done, links_fault, links_more}
use Rattle.request.proofs.ViewLaws.{idents_length, idents_more}
use Rattle.reading.specs.DemandsLaws.{demand_holds, demand_counted, demand_end, demands_done, demands_fault, demands_more}
use Rattle.reading.specs.FieldLaws.{link_written, demand_written}
use Rattle.fields.specs.inner.Holds.{FieldHolds}
use Rattle.reading.specs.inner.Fields.{LinkHolds, NewDemandHolds}
use Rattle.reading.specs.inner.Encoded.{LinksEncoded, DemandsEncoded}
use Rattle.request.specs.RoundTrip.{Bytes}

-- links that have ended
links_ended : (s : List ℕ) (at : ℕ) (before : List Link) → at ≤ length s → length before ≤ 64 → links_end s at (length before) ≡ true → LinksEncoded s at before before at
unfolding links_end link_fields check_links
links_ended s at before within few ended =
    record {
      more = [];
      all = sym (append-nil before);
      encoded = refl;
      within = within;
      some = ltb-true 0 (length before) (and_first (ltb 0 (length before)) _ ended);
      few = few;
      sound = λ (k : ℕ). refl;
    }

-- one link more in front
links_grown : (s : List ℕ) (at : ℕ) (before links : List Link) (end : ℕ) → LinkHolds s at (length before) →
    LinksEncoded s (at + 5) (before ++ (link_in s at ∷ [])) links end → LinksEncoded s at before links end
unfolding link_fields check_links
links_grown s at before links end holds rest =
    let l = link_in s at in
    record {
      more = l ∷ rest.more;
      all = rest.all ∙ append_assoc before (l ∷ []) rest.more;
      encoded =
          link_written s at holds.field ∙ ap (λ (r : List ℕ). link_field l ++ r) rest.encoded ∙
          sym (append_assoc (link_field l) (link_fields rest.more) (drop end s));
      within = rest.within;
      some = rest.some;
      few = rest.few;
      sound = λ (k : ℕ).
          then_sound (cond (eqb l.from l.to) (Err (BadLink k)) (Ok tt)) (check_links (k + 1) rest.more)
          (ap (λ (b : Bool). cond b (Err (BadLink k)) (Ok tt)) (ne_eqb l.from l.to holds.two_nodes)) ∙
          rest.sound (k + 1);
    }

-- links that are read were encoded
pub links_encoded : (left : ℕ) (s : List ℕ) (at : ℕ) (before links : List Link) (end : ℕ) → at ≤ length s → length before ≤ 64 →
    read_links left s at before ≡ links_read links end → LinksEncoded s at before links end
unfolding read_links
links_encoded zero s at before links end within few e = absurd (let z : ◌≡◌ {A = ℕ} 0 1 = cc in omega arith)
links_encoded (suc left) s at before links end within few e =
    by_test (links_end s at (length before))
    (λ (ended : links_end s at (length before) ≡ true).
    let read : links_read before at ≡ links_read links end = sym (links_done left s at before ended) ∙ e in
    let same : before ≡ links = cc in
    let here : at ≡ end = cc in
    rw (← same, ← here) (links_ended s at before within few ended))
    (λ (more : links_end s at (length before) ≡ false).
    by_check (check_link_field s at (length before))
    (λ (sound : check_link_field s at (length before) ≡ Ok tt).
    let holds = link_holds s at (length before) sound in
    let field = holds.field in
    let grown = length-append before (link_in s at ∷ []) in
    let rest : read_links left s (at + 5) (before ++ (link_in s at ∷ [])) ≡ links_read links end
    = ap (λ (n : ℕ). read_links left s n (before ++ (link_in s at ∷ []))) (sym (link_end s at field)) ∙ sym (links_more left s at before more (sym sound)) ∙ e in
    links_grown s at before links end holds
    (links_encoded left s (at + 5) (before ++ (link_in s at ∷ [])) links end (omega arith) (omega (arith, holds.room)) rest))
    (λ (why : Refusal) (fault : check_link_field s at (length before) ≡ Err why).
    let read : links_refused why ≡ links_read links end = sym (links_fault left s at before more (sym fault)) ∙ e in
    absurd (let z : ◌≡◌ {A = ℕ} 0 1 = cc in omega arith)))

-- what holds of the first demand and of each behind it holds of each
each_demand : (P : DemandView → Type 0) (d : DemandView) (more : List DemandView) → P d → ((j : ℕ) → j < length more → P (demand_at more j)) →
    (j : ℕ) → j < length (d ∷ more) → P (demand_at (d ∷ more) j)
unfolding demand_at
each_demand P d more first others zero h = first
each_demand P d more first others (suc j) h = others j (omega arith)

-- at the end of the file
demands_ended : (S : ℕ) (links : List Link) (s : List ℕ) (at : ℕ) (before : List DemandView) → at ≡ length s → length before ≤ 200 → DemandsEncoded S links s at before before
unfolding demand_fields check_demands
demands_ended S links s at before done few =
    record {
      more = [];
      all = sym (append-nil before);
      encoded = drop_of_length-le s {i = at} (omega arith);
      few = few;
      sound = λ (k : ℕ). refl;
      counted = λ (j : ℕ) (h : j < 0). absurd (omega arith);
      named = λ (j : ℕ) (h : j < 0). absurd (omega arith);
    }

-- a demand's route length is allowed where its field's length is
hops_in_field : (s : List ℕ) (at : ℕ) → FieldHolds s at (demand_tag s at) 5 36 → allowed_hops (demand_in s at).hops ≡ true
unfolding allowed_hops demand_in body_length
hops_in_field s at h =
    let hops = number16 s (at + 1) - 4 in
    and_both (leb 1 hops) (leb hops 32) (le-leb 1 hops (omega arith)) (le-leb hops 32 (omega arith))

-- an ident of two bytes
ident_in_field : (s : List ℕ) (at : ℕ) → Bytes s → (demand_in s at).ident < 65536
unfolding demand_in number16
ident_in_field s at bytes = omega (arith, bytes.each (at + 3), bytes.each (at + 3 + 1))

-- one demand more in front
demands_grown : (S : ℕ) (links : List Link) (s : List ℕ) (at : ℕ) (before demands : List DemandView) → Bytes s → FieldHolds s at (demand_tag s at) 5 36 →
    NewDemandHolds S links (idents before) (demand_in s at) →
    DemandsEncoded S links s (at + 7 + (demand_in s at).hops) (before ++ (demand_in s at ∷ [])) demands → DemandsEncoded S links s at before demands
unfolding demand_fields check_demands
demands_grown S links s at before demands bytes field holds rest =
    let d = demand_in s at in
    record {
      more = d ∷ rest.more;
      all = rest.all ∙ append_assoc before (d ∷ []) rest.more;
      encoded = demand_written s at bytes field ∙ ap (λ (r : List ℕ). demand_field d ++ r) rest.encoded;
      few = rest.few;
      sound = λ (k : ℕ).
          then_sound (check_demand S links (idents before) k d) (check_demands S links (idents before ++ (d.ident ∷ [])) (k + 1) rest.more)
          (demand_passes S links (idents before) k d holds.ident_new holds.asked_known holds.width_allowed (hops_in_field s at field) holds.route_sound) ∙
          (rw (idents_more before d) at (rest.sound (k + 1)));
      counted = each_demand (λ (x : DemandView). length x.route ≡ x.hops) d rest.more (demand_counted s at field) rest.counted;
      named = each_demand (λ (x : DemandView). x.ident < 65536) d rest.more (ident_in_field s at bytes) rest.named;
    }

-- demands that are read were encoded
pub demands_encoded : (left S : ℕ) (links : List Link) (s : List ℕ) (at : ℕ) (before demands : List DemandView) → Bytes s → at ≤ length s → length before ≤ 200 →
    read_demands left S links s at before ≡ demands_read demands → DemandsEncoded S links s at before demands
unfolding read_demands check_demand_field
demands_encoded zero S links s at before demands bytes within few e = absurd (let z : ◌≡◌ {A = ℕ} 0 1 = cc in omega arith)
demands_encoded (suc left) S links s at before demands bytes within few e =
    by_test (eqb at (length s))
    (λ (ended : eqb at (length s) ≡ true).
    let done : at ≡ length s = eqb-true at (length s) ended in
    let read : demands_read before ≡ demands_read demands = sym (demands_done left S links s at before done) ∙ e in
    let same : before ≡ demands = cc in
    rw (← same) (demands_ended S links s at before done few))
    (λ (not_done : eqb at (length s) ≡ false).
    let more = eqb-false at (length s) not_done in
    by_check (check_demand_field S links s at (idents before))
    (λ (sound : check_demand_field S links s at (idents before) ≡ Ok tt).
    let field = field_holds s at (demand_tag s at) 5 36 (first_sound (check_field s at (demand_tag s at) 5 36) (check_new_demand S links (idents before) at (demand_in s at)) sound) in
    let holds = demand_holds S links (idents before) at (demand_in s at) (next_sound (check_field s at (demand_tag s at) 5 36) (check_new_demand S links (idents before) at (demand_in s at)) sound) in
    let grown = length-append before (demand_in s at ∷ []) in
    let rest : read_demands left S links s (at + 7 + (demand_in s at).hops) (before ++ (demand_in s at ∷ [])) ≡ demands_read demands
    = ap (λ (n : ℕ). read_demands left S links s n (before ++ (demand_in s at ∷ []))) (sym (demand_end s at field)) ∙
    sym (demands_more left S links s at before more (sym sound)) ∙ e in
    demands_grown S links s at before demands bytes field holds
    (demands_encoded left S links s (at + 7 + (demand_in s at).hops) (before ++ (demand_in s at ∷ [])) demands bytes
    (rw (← demand_end s at field) (field_within s at field)) (omega (arith, holds.room, idents_length before)) rest))
    (λ (why : Refusal) (fault : check_demand_field S links s at (idents before) ≡ Err why).
    let read : demands_refused why ≡ demands_read demands = sym (demands_fault left S links s at before more (sym fault)) ∙ e in
    absurd (let z : ◌≡◌ {A = ℕ} 0 1 = cc in omega arith)))
