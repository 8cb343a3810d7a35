-- A list may have any length, an array has the one of its type: what this says of requests and of their views.
use Rattle.std.specs.Prelude.{ℕ, ◌≤◌, ◌<◌, ◌≡◌, length, get_or}
use Rattle.request.specs.declared.Request.{Request}
use Rattle.request.specs.View.{View, demand_at, no_entry}

-- a request with arrays of their lengths: every value of the type is one
pub record Whole (r : Request) : Type 0 where
  pub all_links : length r.links ≡ 64
  pub all_demands : length r.demands ≡ 200
  pub all_hops : (k : ℕ) → k < 200 → length (get_or r.demands k no_entry).links ≡ 32

-- a view whose lists are as long as it says, where it says no more than an array holds
pub record Counted (v : View) : Type 0 where
  pub links_counted : v.link_count ≤ 64 → length v.links ≡ v.link_count
  pub demands_counted : v.demand_count ≤ 200 → length v.demands ≡ v.demand_count
  pub routes_counted : (k : ℕ) → k < length v.demands → (demand_at v.demands k).hops ≤ 32 →
      length (demand_at v.demands k).route ≡ (demand_at v.demands k).hops
