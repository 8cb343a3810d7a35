-- The limits that the numbers of a sound request keep, as code needs them.
use Rattle.std.specs.Prelude.{ℕ, ◌≤◌, ◌<◌, ◌≡◌, length, get_or}
use Rattle.request.specs.declared.Demand.{Demand}
use Rattle.request.specs.declared.Request.{Request}
use Rattle.request.specs.View.{View, demand_at, no_entry, width_of, view_demand}

-- of the request: its band, how many links and demands it has, and that its lists are that long
pub record Limits (v : View) : Type 0 where
  pub some_slot : 1 ≤ v.band.slots
  pub most_slots : v.band.slots ≤ 384
  pub most_guard : v.band.guard ≤ 8
  pub some_link : 1 ≤ v.link_count
  pub most_links : v.link_count ≤ 64
  pub links_there : length v.links ≡ v.link_count
  pub most_demands : v.demand_count ≤ 200
  pub demands_there : length v.demands ≡ v.demand_count
  pub routes_there : (k : ℕ) → k < v.demand_count → length (demand_at v.demands k).route ≡ (demand_at v.demands k).hops

-- of a demand as an array holds it, in a band of S slots with so many links
pub record DemandLimits (S link_count : ℕ) (d : Demand) : Type 0 where
  pub some_width : 1 ≤ width_of (view_demand d)
  pub most_width : width_of (view_demand d) ≤ S
  pub some_hop : 1 ≤ d.hops
  pub most_hops : d.hops ≤ 32
  pub all_hops : length d.links ≡ 32
  pub hops_listed : (p : ℕ) → p < d.hops → get_or d.links p 0 < link_count

-- of each demand of a request
pub record AllLimits (r : Request) : Type 0 where
  pub each : (k : ℕ) → k < r.demand_count →
      DemandLimits r.band.slots r.link_count (get_or r.demands k no_entry)
