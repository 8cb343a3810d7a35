-- Requests go into arrays and back, and keep to the limits of files.
use Rattle.std.specs.Prelude.{ℕ, suc, ◌*◌, ◌≤◌, ◌<◌, true, ◌&&◌, List, [], ◌∷◌, map, ◌≡◌, refl, length, take, leb, ℤ, pos, negsuc}
use Rattle.std.proofs.Common.{sym, ap, ◌∙◌, arith, leb-true, length-append, SFits}
use Rattle.std.proofs.lemmas.List.{length-map}
use Rattle.std.specs.Int.{w16}
use Rattle.grid.specs.declared.Band.{Band}
use Rattle.grid.specs.Grid.{allowed_edge, allowed_slots, allowed_guard, allowed_band}
use Rattle.request.specs.View.{DemandView, View, view_demand, view, no_link, demand_at}
use Rattle.theory.proofs.TestLaws.{and_first}
use Rattle.request.specs.inner.Limits.{Limits}
use Rattle.request.specs.Encoding.{demand_field, demand_fields, encode}
use Rattle.request.proofs.EncodingLaws.{demand_bytes, file_bytes}
use Rattle.request.specs.Packing.{padded, empty_demand, pack_demand, pack}
use Rattle.request.proofs.PackingLaws.{take_padded, view_packed}

-- an allowed lower edge has 16 bits
pub edge_fits : (n0 : ℤ) → allowed_edge n0 ≡ true → SFits w16 n0
edge_fits (pos n) allowed = record { sfits = omega (arith, leb-true n 400 allowed) }
edge_fits (negsuc n) allowed =
    record { sfits = omega (arith, leb-true n 399 (and_first (leb n 399) true allowed)) }

-- and so has that of an allowed band
pub band_edge : (band : Band) → allowed_band band ≡ true → SFits w16 band.n0
band_edge band allowed =
    edge_fits band.n0 (and_first (allowed_edge band.n0) (allowed_slots band.slots && allowed_guard band.guard) allowed)

-- demands packed into an array are seen as they were
demands_repacked : (demands : List DemandView) → ((k : ℕ) → k < length demands → length (demand_at demands k).route ≡ (demand_at demands k).hops) →
    map view_demand (map pack_demand demands) ≡ demands
unfolding demand_at
demands_repacked [] counted = refl
demands_repacked (d ∷ demands) counted =
    rw (view_packed d (counted 0 (omega arith)), demands_repacked demands (λ (k : ℕ) (h : k < length demands). counted (suc k) (omega arith)))

-- a request packed into arrays is seen as it was
pub view_repacked : (v : View) → Limits v → view (pack v) ≡ v
unfolding view pack
view_repacked v limits =
    let links : take v.link_count (padded 64 no_link v.links) ≡ v.links
    = ap (λ (n : ℕ). take n (padded 64 no_link v.links)) (sym limits.links_there) ∙ take_padded 64 no_link v.links in
    let packed = map pack_demand v.demands in
    let count : v.demand_count ≡ length packed = sym (length-map v.demands pack_demand ∙ limits.demands_there) in
    let demands : map view_demand (take v.demand_count (padded 200 empty_demand packed)) ≡ v.demands
    = ap (λ (n : ℕ). map view_demand (take n (padded 200 empty_demand packed))) count ∙ ap (map view_demand) (take_padded 200 empty_demand packed) ∙
    demands_repacked v.demands (λ (k : ℕ) (h : k < length v.demands). limits.routes_there k (omega (arith, limits.demands_there))) in
    rw (links, demands)

-- demands of at most 32 links have fields of at most 39 bytes each
demands_at_most : (demands : List DemandView) → ((k : ℕ) → k < length demands → length (demand_at demands k).route ≤ 32) →
    length (demand_fields demands) ≤ 39 * length demands
unfolding demand_fields demand_at
demands_at_most [] short = omega arith
demands_at_most (d ∷ demands) short =
    let rest = demands_at_most demands (λ (k : ℕ) (h : k < length demands). short (suc k) (omega arith)) in
    let first = short 0 (omega arith) in
    let bytes = demand_bytes d in
    let sum = length-append (demand_field d) (demand_fields demands) in
    omega arith

-- the file of a request within its limits has at most 8,128 bytes
pub file_at_most : (v : View) → Limits v → ((k : ℕ) → k < v.demand_count → (demand_at v.demands k).hops ≤ 32) → length (encode v) ≤ 8128
file_at_most v limits short =
    let demands = demands_at_most v.demands
    (λ (k : ℕ) (h : k < length v.demands).
    let within : k < v.demand_count = omega (arith, limits.demands_there) in
    omega (arith, short k within, limits.routes_there k within)) in
    let bytes = file_bytes v in
    omega (arith, limits.links_there, limits.most_links, limits.demands_there, limits.most_demands)
