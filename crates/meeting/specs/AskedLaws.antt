-- How many demands a request's array holds, and what stands behind the last.
use Rattle.std.specs.Prelude.{ℕ, ◌≤◌, ◌<◌, min, List, map, ◌≡◌, length, get_or, take}
use Rattle.std.proofs.Common.{sym, ap, ◌∙◌, arith, length-take, get_or-take}
use Rattle.std.proofs.lemmas.List.{length-map}
use Rattle.std.proofs.Math.ListN.{get_or-eq_default}
use Rattle.request.specs.declared.Demand.{Demand}
use Rattle.request.specs.declared.Request.{Request}
use Rattle.request.specs.View.{DemandView, view_demand, view, no_demand, demand_at, no_entry}
use Rattle.request.proofs.ViewLaws.{map_at, demands_shown, demand_shown}

-- as many are asked for as it says where the array has room for them
pub demands_few : (demands : List Demand) (count : ℕ) → length demands ≡ 200 → count < 200 → count ≡ length (map view_demand (take count demands))
demands_few demands count full h = omega (arith, length-map (take count demands) view_demand, length-take count demands)

-- and else the whole array
pub demands_whole : (demands : List Demand) (count : ℕ) → length demands ≡ 200 → 200 ≤ count → 200 ≡ length (map view_demand (take count demands))
demands_whole demands count full h = omega (arith, length-map (take count demands) view_demand, length-take count demands)

-- the demand at a listing position is what the array holds there
pub demand_in_lem : (demands : List Demand) (count k : ℕ) → k < length (map view_demand (take count demands)) →
    demand_at (map view_demand (take count demands)) k ≡ view_demand (get_or demands k no_entry)
unfolding demand_at
demand_in_lem demands count k h =
    let few : k < length (take count demands) = omega (arith, length-map (take count demands) view_demand) in
    map_at view_demand (take count demands) k no_entry no_demand few
    ∙ ap view_demand (get_or-take count demands k no_entry (omega (arith, length-take count demands)))

-- so it is for a request
pub demand_at_lem : (q : Request) (k : ℕ) → k < length (view q).demands → demand_at (view q).demands k ≡ view_demand (get_or q.demands k no_entry)
demand_at_lem q k h = demand_shown q k (omega (arith, demands_shown q))

-- behind the last demand there is none
pub demand_none : (demands : List DemandView) (k : ℕ) → length demands ≤ k → demand_at demands k ≡ no_demand
unfolding demand_at
demand_none demands k h = get_or-eq_default demands no_demand {n = k} h

-- the demand at a place of those that are asked for is the one at that listing position
pub asked_at : (asked demands : List Demand) (count k : ℕ) (none : Demand) → asked ≡ take count demands → k < length asked →
    view_demand (get_or asked k none) ≡ demand_at (map view_demand (take count demands)) k
unfolding demand_at
asked_at asked demands count k none shown h =
    rw shown (sym (map_at view_demand (take count demands) k none no_demand (omega (arith, ap length shown))))

-- as many are asked of a request as it shows
pub asked_shown : (q : Request) → length q.demands ≡ 200 → min q.demand_count 200 ≡ length (view q).demands
asked_shown q full = omega (arith, full, demands_shown q)
