-- The demands of a file, one by one.
use Rattle.std.specs.Prelude.{ℕ, suc, ◌+◌, ◌-◌, ◌≤◌, ◌<◌, ◌≡◌, refl, true, false, not, set, take, drop, replicate, ltb, Result, Ok, Err}
use Rattle.std.proofs.Math.Path.{sym, ap}
use Rattle.std.proofs.Common.{◌∙◌, ltb-true, lt-ltb, le-ltb, eq-eqb, ne_eqb, length-drop, length-take-le}
use mathlib.Core.List.{List, [], ◌∷◌, ◌++◌, map, map-append}
use native.Mathlib.Omega.{arith}
use Rattle.std.proofs.lemmas.Bool.{not-true}
use Rattle.std.proofs.Math.ListN.{length, length-append, length-map}
use Rattle.refusal.specs.declared.Refusal.{Refusal}
use Rattle.refusal.specs.declared.Refusal.TheVariants.{TooManyDemands, IdentUsed, UnknownRate, BadWidth, BadRoute}
use Rattle.grid.specs.Grid.{allowed_width}
use Rattle.request.specs.declared.Link.{Link}
use Rattle.request.specs.declared.Demand.{Demand}
use Rattle.request.specs.View.{DemandView, view_demand, idents, width_of}
use Rattle.request.specs.Check.{then, has, sound_route, must, known_asked}
use Rattle.fields.specs.Field.{number16, body_length, field_end, check_field}
use Rattle.reading.specs.Reading.{demand_tag, demand_in, check_new_demand, check_demand_field, demands_refused, demands_read, next_demands, read_demands}
use Rattle.request.specs.Packing.{padded, empty_demand, pack_demand}
use Rattle.reading.specs.inner.PartsPacking.{pack_demands}
use Rattle.request.proofs.CheckLaws.{first_sound, next_sound, test_held}
use Rattle.fields.specs.FieldLaws.{field_holds, field_within}
use Rattle.request.proofs.PackingLaws.{length_padded, take_padded, set_padded, view_packed}
use Rattle.fields.specs.inner.Holds.{FieldHolds}
use Rattle.reading.specs.inner.Fields.{NewDemandHolds}
use Rattle.reading.specs.inner.SoFar.{DemandsSoFar}
use Rattle.request.proofs.ViewLaws.{idents_length}

module _ (S : ℕ) (links : List Link) (earlier : List ℕ) (at : ℕ) (d : DemandView) where
  -- 6: the 201st demand
  pub demand_too_many : 200 ≤ length earlier → Err (TooManyDemands at) ≡ check_new_demand S links earlier at d
  unfolding check_new_demand then must
  demand_too_many many = rw (le-ltb (length earlier) 200 many)

  module _ (few : length earlier < 200) where
    -- 8: an ident that was used
    pub demand_used : has d.ident earlier ≡ true → Err (IdentUsed at) ≡ check_new_demand S links earlier at d
    unfolding check_new_demand then must
    demand_used used = rw (lt-ltb (length earlier) 200 few, used)

    -- 21: a rate that is not in the table
    pub demand_unknown : has d.ident earlier ≡ false → known_asked d.asked ≡ false → Err (UnknownRate at) ≡ check_new_demand S links earlier at d
    unfolding check_new_demand then must
    demand_unknown new unknown = rw (lt-ltb (length earlier) 200 few, new, unknown)

    -- 9: a width outside the band
    pub demand_wide : has d.ident earlier ≡ false → known_asked d.asked ≡ true → allowed_width S (width_of d) ≡ false → Err (BadWidth at) ≡ check_new_demand S links earlier at d
    unfolding check_new_demand then must
    demand_wide new known wide = rw (lt-ltb (length earlier) 200 few, new, known, wide)

    -- 7: an unsound route
    pub demand_astray : has d.ident earlier ≡ false → known_asked d.asked ≡ true → allowed_width S (width_of d) ≡ true → sound_route links d.route ≡ false → Err (BadRoute at) ≡ check_new_demand S links earlier at d
    unfolding check_new_demand then must
    demand_astray new known width astray = rw (lt-ltb (length earlier) 200 few, new, known, width, astray)

    -- a demand with none of these faults
    pub demand_sound : has d.ident earlier ≡ false → known_asked d.asked ≡ true → allowed_width S (width_of d) ≡ true → sound_route links d.route ≡ true → Ok tt ≡ check_new_demand S links earlier at d
    unfolding check_new_demand then must
    demand_sound new known width route = rw (lt-ltb (length earlier) 200 few, new, known, width, route)

-- a new demand that is sound says so
pub demand_holds : (S : ℕ) (links : List Link) (earlier : List ℕ) (at : ℕ) (d : DemandView) → check_new_demand S links earlier at d ≡ Ok tt → NewDemandHolds S links earlier d
unfolding check_new_demand
demand_holds S links earlier at d sound =
    let one = next_sound (must (ltb (length earlier) 200) (TooManyDemands at)) _ sound in
    let two = next_sound (must (not (has d.ident earlier)) (IdentUsed at)) _ one in
    let three = next_sound (must (known_asked d.asked) (UnknownRate at)) _ two in
    let four : must (sound_route links d.route) (BadRoute at) ≡ Ok tt
    = next_sound (must (allowed_width S (width_of d)) (BadWidth at)) _ three in
    record {
      room = ltb-true (length earlier) 200 (test_held (ltb (length earlier) 200) (TooManyDemands at) (first_sound (must (ltb (length earlier) 200) (TooManyDemands at)) _ sound));
      ident_new = not-true (has d.ident earlier) (test_held (not (has d.ident earlier)) (IdentUsed at) (first_sound (must (not (has d.ident earlier)) (IdentUsed at)) _ one));
      asked_known = test_held (known_asked d.asked) (UnknownRate at) (first_sound (must (known_asked d.asked) (UnknownRate at)) _ two);
      width_allowed = test_held (allowed_width S (width_of d)) (BadWidth at) (first_sound (must (allowed_width S (width_of d)) (BadWidth at)) _ three);
      route_sound = test_held (sound_route links d.route) (BadRoute at) four;
    }

-- a demand in a sound field has a route of as many links as it says
pub demand_counted : (s : List ℕ) (at : ℕ) → FieldHolds s at (demand_tag s at) 5 36 → length (demand_in s at).route ≡ (demand_in s at).hops
unfolding demand_in body_length
demand_counted s at h =
    length-take-le (number16 s (at + 1) - 4) (drop (at + 7) s) (rw (length-drop (at + 7) s) (omega arith))

-- a demand's field ends behind its route
pub demand_end : (s : List ℕ) (at : ℕ) → FieldHolds s at (demand_tag s at) 5 36 → field_end s at ≡ at + 7 + (demand_in s at).hops
unfolding field_end demand_in body_length
demand_end s at h = omega arith

module _ (left S : ℕ) (links : List Link) (s : List ℕ) (at : ℕ) (demands : List DemandView) where
  -- at the end of the file the demands are read
  pub demands_done : at ≡ length s → read_demands (suc left) S links s at demands ≡ demands_read demands
  unfolding read_demands
  demands_done done = rw (eq-eqb at (length s) done)

  -- a fault ends the reading
  pub demands_fault : {why : Refusal} → (at ≡ length s → ⊥) → Err why ≡ check_demand_field S links s at (idents demands) → read_demands (suc left) S links s at demands ≡ demands_refused why
  unfolding read_demands next_demands
  demands_fault more fault = rw (ne_eqb at (length s) more, ← fault)

  -- a sound field is one demand more
  pub demands_more : (at ≡ length s → ⊥) → Ok tt ≡ check_demand_field S links s at (idents demands) →
      read_demands (suc left) S links s at demands ≡ read_demands left S links s (field_end s at) (demands ++ (demand_in s at ∷ []))
  unfolding read_demands next_demands
  demands_more more sound = rw (ne_eqb at (length s) more, ← sound)

-- a field is tested for the tag that a demand's field must have
pub field_tagged : {answer : Result Unit Refusal} (s : List ℕ) (at tag : ℕ) → tag ≡ demand_tag s at → answer ≡ check_field s at tag 5 36 → answer ≡ check_field s at (demand_tag s at) 5 36
field_tagged s at tag same e = e ∙ ap (λ (t : ℕ). check_field s at t 5 36) same

-- the two parts of a demand's field: the field, then the demand in it
pub field_first : {why : Refusal} (S : ℕ) (links : List Link) (s : List ℕ) (at : ℕ) (earlier : List ℕ) → Err why ≡ check_field s at (demand_tag s at) 5 36 → Err why ≡ check_demand_field S links s at earlier
unfolding check_demand_field then
field_first S links s at earlier fault = rw (← fault)

pub demand_then : {answer : Result Unit Refusal} (S : ℕ) (links : List Link) (s : List ℕ) (at : ℕ) (earlier : List ℕ) → Ok tt ≡ check_field s at (demand_tag s at) 5 36 → answer ≡ check_new_demand S links earlier at (demand_in s at) → answer ≡ check_demand_field S links s at earlier
unfolding check_demand_field then
demand_then S links s at earlier sound e = rw (← sound) e

-- before the first
pub demands_begin_lem : (S : ℕ) (links : List Link) (s : List ℕ) (start : ℕ) → start ≤ length s → DemandsSoFar S links s start start 0 (replicate 200 empty_demand) (replicate 200 0)
unfolding padded idents
demands_begin_lem S links s start some =
    record { demands = []; counted = refl; few = omega arith; within = some; stored = refl; named = refl; goes_on = refl }

module _ (S : ℕ) (links : List Link) (s : List ℕ) (start at count : ℕ) (array : List Demand) (used : List ℕ) (so_far : DemandsSoFar S links s start at count array used) where
  -- how the reading goes on from here
  demands_here : read_demands (suc (200 - count)) S links s at so_far.demands ≡ read_demands 201 S links s start []
  demands_here =
      let few : count ≤ 200 = so_far.few in
      let one : suc (200 - count) ≡ 201 - count = omega arith in
      rw one so_far.goes_on

  -- the idents so far stand at the front of their array
  pub used_front : take count used ≡ idents so_far.demands
  unfolding idents
  used_front =
      let named : length (idents so_far.demands) ≡ count = idents_length so_far.demands ∙ so_far.counted in
      rw (so_far.named, ← named) (take_padded 200 0 (idents so_far.demands))

  -- the end
  pub demands_finish : at ≡ length s → Ok (record { count = count; demands = array }) ≡ pack_demands (read_demands 201 S links s start [])
  unfolding pack_demands padded
  demands_finish done =
      let all : read_demands 201 S links s start [] ≡ demands_read so_far.demands
      = sym demands_here ∙ demands_done (200 - count) S links s at so_far.demands done in
      rw (all, so_far.stored, so_far.counted)

  -- a fault
  pub demands_fail : {why : Refusal} → (at ≡ length s → ⊥) → Err why ≡ check_demand_field S links s at (take count used) →
      Err why ≡ pack_demands (read_demands 201 S links s start [])
  unfolding pack_demands
  demands_fail more fault =
      ap pack_demands (sym (demands_fault (200 - count) S links s at so_far.demands more (rw used_front at fault)) ∙ demands_here)

  -- the idents so far are as many as the demands
  pub used_length : length (take count used) ≡ count
  unfolding idents
  used_length =
      ap length used_front ∙ idents_length so_far.demands ∙ so_far.counted

  -- their array has room for them
  pub used_room : count ≤ length used
  unfolding idents
  used_room =
      let names : length (idents so_far.demands) ≡ count = idents_length so_far.demands ∙ so_far.counted in
      let whole : length used ≡ 200 = ap length so_far.named ∙ length_padded 200 0 (idents so_far.demands) (rw names so_far.few) in
      omega (arith, so_far.few)

  -- a sound field leaves room for its demand
  pub demand_room : Ok tt ≡ check_demand_field S links s at (take count used) → count < 200
  unfolding check_demand_field
  demand_room sound =
      let holds = demand_holds S links (take count used) at (demand_in s at) (next_sound (check_field s at (demand_tag s at) 5 36) _ (sym sound)) in
      omega (arith, holds.room, used_length)

  -- one demand more
  demands_next : (at ≡ length s → ⊥) → Ok tt ≡ check_demand_field S links s at (take count used) →
      DemandsSoFar S links s start (at + 7 + (demand_in s at).hops) (count + 1) (set array count (pack_demand (demand_in s at))) (set used count (demand_in s at).ident)
  unfolding idents check_demand_field
  demands_next more sound =
      let field : FieldHolds s at (demand_tag s at) 5 36 = field_holds s at (demand_tag s at) 5 36 (first_sound (check_field s at (demand_tag s at) 5 36) _ (sym sound)) in
      let room : count < 200 = demand_room sound in
      let end : field_end s at ≡ at + 7 + (demand_in s at).hops = demand_end s at field in
      let left : 200 - count ≡ 201 - (count + 1) = omega arith in
      let next : List DemandView = so_far.demands ++ (demand_in s at ∷ []) in
      let packed : length (map pack_demand so_far.demands) ≡ count = length-map so_far.demands pack_demand ∙ so_far.counted in
      let named : length (idents so_far.demands) ≡ count = idents_length so_far.demands ∙ so_far.counted in
      record {
        demands = next;
        counted = length-append so_far.demands (demand_in s at ∷ []) ∙ ap (λ (n : ℕ). n + 1) so_far.counted;
        few = omega arith;
        within = rw (← end) (field_within s at field);
        stored =
            rw (so_far.stored, ← packed)
            (set_padded 200 empty_demand (map pack_demand so_far.demands) (pack_demand (demand_in s at)) (rw packed room) ∙
            ap (padded 200 empty_demand) (sym (map-append pack_demand so_far.demands (demand_in s at ∷ []))));
        named =
            rw (so_far.named, ← named)
            (set_padded 200 0 (idents so_far.demands) (demand_in s at).ident (rw named room) ∙
            ap (padded 200 0) (sym (map-append (λ (d : DemandView). d.ident) so_far.demands (demand_in s at ∷ []))));
        goes_on =
            ap (λ (n : ℕ). read_demands n S links s (at + 7 + (demand_in s at).hops) next) (sym left) ∙
            ap (λ (n : ℕ). read_demands (200 - count) S links s n next) (sym end) ∙
            sym (demands_more (200 - count) S links s at so_far.demands more (rw used_front at sound)) ∙ demands_here;
      }

  module _ (demand : Demand) (read : demand ≡ pack_demand (demand_in s at)) where
    -- the demand read is checked in its array as in its field
    pub demand_here : {answer : Result Unit Refusal} → Ok tt ≡ check_field s at (demand_tag s at) 5 36 → answer ≡ check_new_demand S links (take count used) at (view_demand demand) →
        answer ≡ check_demand_field S links s at (take count used)
    demand_here field e =
        let counted = demand_counted s at (field_holds s at (demand_tag s at) 5 36 (sym field)) in
        demand_then S links s at (take count used) field
        (e ∙ ap (check_new_demand S links (take count used) at) (ap view_demand read ∙ view_packed (demand_in s at) counted))

    -- it is stored as one more
    pub demands_step : (at ≡ length s → ⊥) → Ok tt ≡ check_demand_field S links s at (take count used) →
        DemandsSoFar S links s start (at + 7 + demand.hops) (count + 1) (set array count demand) (set used count demand.ident)
    unfolding pack_demand
    demands_step more sound = rw read (demands_next more sound)

    -- a sound field leaves room for its demand, and the reading goes on behind it
    pub demands_go_on : (tag : ℕ) → tag ≡ demand_tag s at → at < length s → check_field s at tag 5 36 ≡ Ok tt →
        check_new_demand S links (take count used) at (view_demand demand) ≡ Ok tt →
        (count < 200) × DemandsSoFar S links s start (at + 7 + demand.hops) (count + 1) (set array count demand) (set used count demand.ident)
    demands_go_on tag same more field new =
        let sound = demand_here (field_tagged s at tag same (sym field)) (sym new) in
        (demand_room sound, demands_step (λ (done : at ≡ length s). omega arith) sound)
