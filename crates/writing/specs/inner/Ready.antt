-- What the writer may rely on.
use Rattle.std.specs.Prelude.{◌+◌, ◌*◌, ◌≤◌, map, ◌≡◌, length, take}
use Rattle.std.specs.List.{All}
use Rattle.request.specs.declared.Demand.{Demand}
use Rattle.request.specs.declared.Request.{Request}
use Rattle.request.specs.View.{view_demand, view}
use Rattle.request.specs.Encoding.{demand_fields, encode}

-- a demand has its route within its own array of 32
pub record RouteFits (d : Demand) : Type 0 where
  pub short : d.hops ≤ 32
  pub whole : length d.links ≡ 32

-- a request within its limits, whose file has so many bytes
pub record Ready (r : Request) : Type 0 where
  pub few_links : r.link_count ≤ 64
  pub few_demands : r.demand_count ≤ 200
  pub routes_fit : All RouteFits (take r.demand_count r.demands)
  pub all_links : length (take r.link_count r.links) ≡ r.link_count
  pub all_demands : length (take r.demand_count r.demands) ≡ r.demand_count
  pub bytes : length (encode (view r)) ≡ 8 + 5 * r.link_count + length (demand_fields (map view_demand (take r.demand_count r.demands)))
