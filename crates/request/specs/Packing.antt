-- A request of lists as a value of arrays: what stands behind a count is empty.
use Rattle.std.specs.Prelude.{ℕ, ◌-◌, List, ◌++◌, map, length, replicate, pos}
use Rattle.request.specs.declared.Demand.{Demand}
use Rattle.request.specs.declared.Request.{Request}
use Rattle.request.specs.View.{DemandView, View, no_link}
use Rattle.request.specs.declared.Asked.TheVariants.{Width}

-- a list made as long as an array by an empty entry
unfoldable pub padded : {A : Type 0} → ℕ → A → List A → List A
padded size empty xs = xs ++ replicate (size - length xs) empty

-- the empty demand: every number 0
unfoldable pub empty_demand : Demand
empty_demand = record { ident = 0; asked = Width 0; hops = 0; links = replicate 32 0 }

-- the empty request: nothing in it, every number 0
unfoldable pub empty_request : Request
unfolding no_link empty_demand
empty_request =
    record {
      band = record { n0 = pos 0; slots = 0; guard = 0 };
      link_count = 0;
      links = replicate 64 no_link;
      demand_count = 0;
      demands = replicate 200 empty_demand;
    }

-- a demand with its route in an array
unfoldable pub pack_demand : DemandView → Demand
unfolding padded
pack_demand d = record { ident = d.ident; asked = d.asked; hops = d.hops; links = padded 32 0 d.route }

-- a request with its links and its demands in arrays
unfoldable pub pack : View → Request
unfolding padded no_link empty_demand pack_demand
pack v =
    record {
      band = v.band;
      link_count = v.link_count;
      links = padded 64 no_link v.links;
      demand_count = v.demand_count;
      demands = padded 200 empty_demand (map pack_demand v.demands);
    }
