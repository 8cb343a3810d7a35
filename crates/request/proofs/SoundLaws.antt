-- The test says sound exactly for sound requests.
use Rattle.std.specs.Prelude.{ℕ, zero, suc, ◌+◌, ◌≤◌, ◌<◌, Bool, true, false, cond, List, [], ◌∷◌, ◌++◌, ◌≢◌, ◌≡◌, refl, length, take, get_or, leb, ltb, eqb, Result, Ok, Err}
use Rattle.std.proofs.Common.{append_assoc, append-nil, sym, ◌∙◌, ap, arith, le-leb, ne_eqb, ltb-true, ltb-false, length-take-le}
use Rattle.std.proofs.lemmas.Bool.{eqb-false}
use Rattle.std.proofs.Math.ListN.{get_or-eq_default}
use Rattle.refusal.specs.declared.Refusal.{Refusal}
use Rattle.refusal.specs.declared.Refusal.TheVariants.{WrongTag, WrongLength, BandOutside, BadLink, TooManyDemands, BadRoute, IdentUsed, BadWidth, UnknownRate}
use Rattle.grid.specs.Grid.{allowed_band, allowed_width}
use Rattle.request.specs.declared.Link.{Link}
use Rattle.request.specs.declared.Request.{Request}
use Rattle.request.specs.View.{DemandView, View, view, view_demand, link_at, demand_at, no_entry, no_demand, idents, width_of, asked_width}
use Rattle.request.specs.Check.{then, has, sound_route, allowed_hops, check_band, check_some_link, check_links, check_link_count, check_demand, check_demands, check_demand_count, check, known_asked}
use Rattle.request.specs.Sound.{SoundDemand, SoundRequest}
use Rattle.request.specs.inner.Route.{RouteHolds}
use Rattle.request.specs.inner.Passes.{Passes}
use Rattle.request.specs.Whole.{Whole, Counted}
use Rattle.theory.proofs.TestLaws.{by_test, and_both}
use Rattle.request.proofs.ViewLaws.{links_shown, demands_shown, demand_shown, idents_length, ident_at}
use Rattle.request.proofs.RouteLaws.{none_early, early_none, sound_holds, holds_sound}
use Rattle.request.proofs.CheckLaws.{then_sound, first_sound, next_sound, band_passes, some_link_lem, few_links, links_counted, few_demands, width_allowed, hops_allowed, demand_passes}

-- a refusal is not sound
refused_not_sound : {C : Type 0} (why : Refusal) → ◌≡◌ {A = Result Unit Refusal} (Err why) (Ok tt) → C
refused_not_sound why h = absurd (let z : ◌≡◌ {A = ℕ} 0 1 = cc in omega arith)

-- a choice between refusal and sound that is sound had a test that failed
pub not_refused : (b : Bool) (why : Refusal) → cond {A = Result Unit Refusal} b (Err why) (Ok tt) ≡ Ok tt → b ≡ false
not_refused true why h = refused_not_sound why h
not_refused false why h = refl

-- a choice between sound and refusal that is sound had a test that held
pub passed : (b : Bool) (why : Refusal) → cond {A = Result Unit Refusal} b (Ok tt) (Err why) ≡ Ok tt → b ≡ true
passed true why h = refl
passed false why h = refused_not_sound why h

-- where the links pass, each is between two nodes
links_two_nodes : (i : ℕ) (links : List Link) → check_links i links ≡ Ok tt → (k : ℕ) → k < length links →
    (link_at links k).from ≢ (link_at links k).to
unfolding check_links link_at
links_two_nodes i [] sound k h same = omega arith
links_two_nodes i (l ∷ links) sound zero h same =
    eqb-false l.from l.to
    (not_refused (eqb l.from l.to) (BadLink i)
    (first_sound (cond (eqb l.from l.to) (Err (BadLink i)) (Ok tt)) (check_links (i + 1) links) sound)) same
links_two_nodes i (l ∷ links) sound (suc k) h same =
    links_two_nodes (i + 1) links
    (next_sound (cond (eqb l.from l.to) (Err (BadLink i)) (Ok tt)) (check_links (i + 1) links) sound) k (omega arith) same

-- links that are each between two nodes pass
two_nodes_pass : (i : ℕ) (links : List Link) → ((k : ℕ) → k < length links → (link_at links k).from ≢ (link_at links k).to) →
    check_links i links ≡ Ok tt
unfolding check_links link_at
two_nodes_pass i [] each = refl
two_nodes_pass i (l ∷ links) each =
    then_sound (cond (eqb l.from l.to) (Err (BadLink i)) (Ok tt)) (check_links (i + 1) links)
    (ap (λ (b : Bool). cond b (Err (BadLink i)) (Ok tt)) (ne_eqb l.from l.to (each 0 (omega arith)))) ∙
    two_nodes_pass (i + 1) links (λ (k : ℕ) (h : k < length links). each (suc k) (omega arith))

-- a demand that is found sound has passed
pub sound_passes : (S : ℕ) (links : List Link) (earlier : List ℕ) (i : ℕ) (d : DemandView) →
    check_demand S links earlier i d ≡ Ok tt → Passes S links earlier d
unfolding check_demand
sound_passes S links earlier i d sound =
    let ident = cond (has d.ident earlier) (Err (IdentUsed i)) (Ok tt) in
    let rate = cond (known_asked d.asked) (Ok tt) (Err (UnknownRate i)) in
    let width = cond (allowed_width S (width_of d)) (Ok tt) (Err (BadWidth i)) in
    let hops = cond (allowed_hops d.hops) (Ok tt) (Err (WrongLength i)) in
    let route = cond (sound_route links d.route) (Ok tt) (Err (BadRoute i)) in
    let from-rate : then rate (then width (then hops route)) ≡ Ok tt = next_sound ident (then rate (then width (then hops route))) sound in
    let from-width : then width (then hops route) ≡ Ok tt = next_sound rate (then width (then hops route)) from-rate in
    let from-hops : then hops route ≡ Ok tt = next_sound width (then hops route) from-width in
    record {
      ident_new = not_refused (has d.ident earlier) (IdentUsed i) (first_sound ident (then rate (then width (then hops route))) sound);
      asked_known = passed (known_asked d.asked) (UnknownRate i) (first_sound rate (then width (then hops route)) from-rate);
      width_allowed = passed (allowed_width S (width_of d)) (BadWidth i) (first_sound width (then hops route) from-width);
      hops_allowed = passed (allowed_hops d.hops) (WrongLength i) (first_sound hops route from-hops);
      route_sound = passed (sound_route links d.route) (BadRoute i) (next_sound hops route from-hops);
    }

-- where the demands pass, each passes after the idents before it
demands_each : (S : ℕ) (links : List Link) (earlier : List ℕ) (i : ℕ) (demands : List DemandView) →
    check_demands S links earlier i demands ≡ Ok tt → (k : ℕ) → k < length demands →
    Passes S links (earlier ++ take k (idents demands)) (demand_at demands k)
unfolding check_demands demand_at idents
demands_each S links earlier i [] sound k h = absurd (omega arith)
demands_each S links earlier i (d ∷ demands) sound zero h =
    rw (append-nil earlier)
    (sound_passes S links earlier i d
    (first_sound (check_demand S links earlier i d) (check_demands S links (earlier ++ (d.ident ∷ [])) (i + 1) demands) sound))
demands_each S links earlier i (d ∷ demands) sound (suc k) h =
    rw (append_assoc earlier (d.ident ∷ []) (take k (idents demands))) at
    (demands_each S links (earlier ++ (d.ident ∷ [])) (i + 1) demands
    (next_sound (check_demand S links earlier i d) (check_demands S links (earlier ++ (d.ident ∷ [])) (i + 1) demands) sound) k (omega arith))

-- demands that each pass after the idents before them pass together
each_demands : (S : ℕ) (links : List Link) (earlier : List ℕ) (i : ℕ) (demands : List DemandView) →
    ((k : ℕ) → k < length demands → Passes S links (earlier ++ take k (idents demands)) (demand_at demands k)) →
    check_demands S links earlier i demands ≡ Ok tt
unfolding check_demands demand_at idents
each_demands S links earlier i [] each = refl
each_demands S links earlier i (d ∷ demands) each =
    let here : Passes S links earlier d = rw (append-nil earlier) at (each 0 (omega arith)) in
    then_sound (check_demand S links earlier i d) (check_demands S links (earlier ++ (d.ident ∷ [])) (i + 1) demands)
    (demand_passes S links earlier i d here.ident_new here.asked_known here.width_allowed here.hops_allowed here.route_sound) ∙
    each_demands S links (earlier ++ (d.ident ∷ [])) (i + 1) demands
    (λ (k : ℕ) (h : k < length demands).
    rw (append_assoc earlier (d.ident ∷ []) (take k (idents demands))) (each (suc k) (omega arith)))

-- there are as many idents as demands
idents_within : (demands : List DemandView) (k : ℕ) → k < length demands → k ≤ length (idents demands)
idents_within demands k h = omega (arith, idents_length demands)

-- a demand that passes is sound, if its route is as long as it says
passes_sound : (S count : ℕ) (links : List Link) (earlier : List ℕ) (d : DemandView) → length links ≡ count →
    (d.hops ≤ 32 → length d.route ≡ d.hops) → Passes S links earlier d → SoundDemand S count (link_at links) d
passes_sound S count links earlier d all routed pass =
    let hops = hops_allowed d.hops pass.hops_allowed in
    let width = width_allowed S (width_of d) pass.width_allowed in
    let size : length d.route ≡ d.hops = routed hops.1 in
    let holds : RouteHolds count (link_at links) d.route d.hops
    = rw (all, size) at (sound_holds links d.route pass.route_sound) in
    record {
      asked_known = pass.asked_known;
      some_width = width.0;
      width_in_band = width.1;
      some_hop = hops.0;
      at_most_32_hops = hops.1;
      links_listed = holds.each_listed;
      links_once = holds.none_twice;
      no_break = holds.no_gap;
      nodes_once = holds.nodes_differ;
    }

-- a sound demand with a new ident passes, if its route is as long as it says
sound_demand_passes : (S count : ℕ) (links : List Link) (earlier : List ℕ) (d : DemandView) → length links ≡ count →
    (d.hops ≤ 32 → length d.route ≡ d.hops) → has d.ident earlier ≡ false → SoundDemand S count (link_at links) d →
    Passes S links earlier d
unfolding allowed_hops
sound_demand_passes S count links earlier d all routed new sound =
    let size : length d.route ≡ d.hops = routed sound.at_most_32_hops in
    let holds : RouteHolds count (link_at links) d.route d.hops
    = record {
      each_listed = sound.links_listed;
      none_twice = sound.links_once;
      no_gap = sound.no_break;
      nodes_differ = sound.nodes_once;
    } in
    record {
      ident_new = new;
      asked_known = sound.asked_known;
      width_allowed =
          and_both (leb 1 (width_of d)) (leb (width_of d) S) (le-leb 1 (width_of d) sound.some_width) (le-leb (width_of d) S sound.width_in_band);
      hops_allowed =
          and_both (leb 1 d.hops) (leb d.hops 32) (le-leb 1 d.hops sound.some_hop) (le-leb d.hops 32 sound.at_most_32_hops);
      route_sound = holds_sound links d.route (rw (all, size) holds);
    }

-- six checks that each pass pass together
pub all_pass : (a b c d e f : Result Unit Refusal) → a ≡ Ok tt → b ≡ Ok tt → c ≡ Ok tt → d ≡ Ok tt → e ≡ Ok tt → f ≡ Ok tt →
    then a (then b (then c (then d (then e f)))) ≡ Ok tt
unfolding then
all_pass a b c d e f ha hb hc hd he hf = rw (ha, hb, hc, hd, he) hf

-- where six checks pass together, each passes
pub each_passes : (a b c d e f : Result Unit Refusal) → then a (then b (then c (then d (then e f)))) ≡ Ok tt →
    (a ≡ Ok tt) × (b ≡ Ok tt) × (c ≡ Ok tt) × (d ≡ Ok tt) × (e ≡ Ok tt) × (f ≡ Ok tt)
each_passes a b c d e f h =
    let from-b = next_sound a (then b (then c (then d (then e f)))) h in
    let from-c = next_sound b (then c (then d (then e f))) from-b in
    let from-d = next_sound c (then d (then e f)) from-c in
    let from-e = next_sound d (then e f) from-d in (
      first_sound a (then b (then c (then d (then e f)))) h,
      first_sound b (then c (then d (then e f))) from-b,
      first_sound c (then d (then e f)) from-c,
      first_sound d (then e f) from-d,
      first_sound e f from-e,
      next_sound e f from-e,
    )

-- a request that the test finds sound is sound
pub check_sound : (v : View) → Counted v → check v ≡ Ok tt → SoundRequest v
unfolding check check_band check_some_link check_demand_count
check_sound v counted sound =
    let each =
    each_passes (check_band v.band) (check_some_link v.link_count) (check_links 0 v.links) (check_link_count v.link_count)
    (check_demands v.band.slots v.links [] 0 v.demands) (check_demand_count v.demand_count) sound in
    let some : v.link_count ≢ 0 = eqb-false v.link_count 0 (not_refused (eqb v.link_count 0) (WrongTag 0) each.1) in
    let few = links_counted v.link_count each.3 in
    let few_demands = ltb-false 200 v.demand_count (not_refused (ltb 200 v.demand_count) (TooManyDemands 200) each.5) in
    let all = counted.links_counted few in
    let all_demands = counted.demands_counted few_demands in
    let passes = demands_each v.band.slots v.links [] 0 v.demands each.4 in
    record {
      band_allowed = passed (allowed_band v.band) (BandOutside 0) each.0;
      some_link = omega arith;
      at_most_64_links = few;
      two_nodes = λ (k : ℕ) (h : k < v.link_count). links_two_nodes 0 v.links each.2 k (omega arith);
      at_most_200_demands = few_demands;
      idents_once =
          λ (j k : ℕ) (jk : j < k) (h : k < v.demand_count) (same : (demand_at v.demands j).ident ≡ (demand_at v.demands k).ident).
          early_none (demand_at v.demands k).ident (idents v.demands) k (idents_within v.demands k (omega arith))
          (passes k (omega arith)).ident_new j jk (sym same ∙ sym (ident_at v.demands j));
      demands_sound =
          λ (k : ℕ) (h : k < v.demand_count).
          passes_sound v.band.slots v.link_count v.links (take k (idents v.demands)) (demand_at v.demands k) all
          (counted.routes_counted k (omega arith)) (passes k (omega arith));
    }

-- of a request that the test finds sound each demand has passed
demand_passed : (v : View) → check v ≡ Ok tt → (k : ℕ) → k < length v.demands →
    Passes v.band.slots v.links (take k (idents v.demands)) (demand_at v.demands k)
unfolding check
demand_passed v sound k h =
    let each =
    each_passes (check_band v.band) (check_some_link v.link_count) (check_links 0 v.links) (check_link_count v.link_count)
    (check_demands v.band.slots v.links [] 0 v.demands) (check_demand_count v.demand_count) sound in
    demands_each v.band.slots v.links [] 0 v.demands each.4 k h

-- and has a sound route
pub routes_sound : (v : View) → check v ≡ Ok tt → (k : ℕ) → k < length v.demands →
    sound_route v.links (demand_at v.demands k).route ≡ true
routes_sound v sound k h = (demand_passed v sound k h).route_sound

-- no demand of a request that the test finds sound is wider than the band
pub width_inside : (v : View) → check v ≡ Ok tt → (k : ℕ) → width_of (demand_at v.demands k) ≤ v.band.slots
unfolding demand_at width_of asked_width
width_inside v sound k =
    by_test (ltb k (length v.demands))
    (λ t.
    let pass = demand_passed v sound k (ltb-true k (length v.demands) t) in
    (width_allowed v.band.slots (width_of (demand_at v.demands k)) pass.width_allowed).1)
    (λ f. rw (get_or-eq_default v.demands no_demand (ltb-false k (length v.demands) f)) (omega arith))

-- the test finds a sound request sound
pub sound_check : (v : View) → Counted v → SoundRequest v → check v ≡ Ok tt
unfolding check
sound_check v counted sound =
    let all = counted.links_counted sound.at_most_64_links in
    let all_demands = counted.demands_counted sound.at_most_200_demands in
    all_pass (check_band v.band) (check_some_link v.link_count) (check_links 0 v.links) (check_link_count v.link_count)
    (check_demands v.band.slots v.links [] 0 v.demands) (check_demand_count v.demand_count)
    (band_passes v.band sound.band_allowed)
    (some_link_lem v.link_count (λ (z : v.link_count ≡ 0). omega (arith, sound.some_link)))
    (two_nodes_pass 0 v.links (λ (k : ℕ) (h : k < length v.links). sound.two_nodes k (omega arith)))
    (few_links v.link_count sound.at_most_64_links)
    (each_demands v.band.slots v.links [] 0 v.demands
    (λ (k : ℕ) (h : k < length v.demands).
    let within : k < v.demand_count = omega arith in
    sound_demand_passes v.band.slots v.link_count v.links (take k (idents v.demands)) (demand_at v.demands k) all
    (counted.routes_counted k h)
    (none_early (demand_at v.demands k).ident (idents v.demands) k (idents_within v.demands k (omega arith))
    (λ (j : ℕ) (jk : j < k) (same : (demand_at v.demands k).ident ≡ get_or (idents v.demands) j 0).
    sound.idents_once j k jk within (sym (same ∙ ident_at v.demands j))))
    (sound.demands_sound k within)))
    (few_demands v.demand_count sound.at_most_200_demands)

-- the view of a request with whole arrays is as long as it says
pub whole_counted : (r : Request) → Whole r → Counted (view r)
unfolding view view_demand
whole_counted r whole =
    record {
      links_counted = λ (few : r.link_count ≤ 64). omega (arith, links_shown r, whole.all_links);
      demands_counted = λ (few : r.demand_count ≤ 200). omega (arith, demands_shown r, whole.all_demands);
      routes_counted =
          λ (k : ℕ) (h : k < length (view r).demands) (short : (demand_at (view r).demands k).hops ≤ 32).
          let shown = demand_shown r k (omega (arith, demands_shown r)) in
          let demand = get_or r.demands k no_entry in
          let room = whole.all_hops k (omega (arith, demands_shown r, whole.all_demands)) in
          rw shown (length-take-le demand.hops demand.links (omega (arith, rw shown at short)));
    }

-- for every request: the test finds it sound exactly where it is
pub sound_exactly : (r : Request) → Whole r → (check (view r) ≡ Ok tt → SoundRequest (view r)) × (SoundRequest (view r) → check (view r) ≡ Ok tt)
sound_exactly r whole = (check_sound (view r) (whole_counted r whole), sound_check (view r) (whole_counted r whole))
