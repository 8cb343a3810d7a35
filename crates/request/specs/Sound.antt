-- What a sound request is, rule by rule.
use Rattle.std.specs.Prelude.{ℕ, ◌+◌, ◌≤◌, ◌<◌, true, ◌≢◌, ◌≡◌, get_or}
use Rattle.grid.specs.Grid.{allowed_band}
use Rattle.request.specs.declared.Link.{Link}
use Rattle.request.specs.View.{DemandView, View, link_at, demand_at, width_of}
use Rattle.request.specs.Check.{known_asked, nodes_of}

-- a demand that a band of S slots with these links can be asked for
pub record SoundDemand (S link_count : ℕ) (link : ℕ → Link) (d : DemandView) : Type 0 where
  -- what it asks for is a width, or one of the rates in the table
  pub asked_known : known_asked d.asked ≡ true
  -- its width is 1 to S
  pub some_width : 1 ≤ width_of d
  pub width_in_band : width_of d ≤ S
  -- its route has 1 to 32 links
  pub some_hop : 1 ≤ d.hops
  pub at_most_32_hops : d.hops ≤ 32
  -- each is a listed link
  pub links_listed : (p : ℕ) → p < d.hops → get_or d.route p 0 < link_count
  -- no link stands twice
  pub links_once : (p q : ℕ) → p < q → q < d.hops → get_or d.route p 0 ≢ get_or d.route q 0
  -- where a link of the route leads to, the next one begins
  pub no_break : (p : ℕ) → p + 1 < d.hops → (link (get_or d.route p 0)).to ≡ (link (get_or d.route (p + 1) 0)).from
  -- no node is met twice, from the one where it begins to the one where it ends
  pub nodes_once : (p q : ℕ) → p < q → q < d.hops + 1 → get_or (nodes_of link d.route) p 0 ≢ get_or (nodes_of link d.route) q 0

-- a sound request
pub record SoundRequest (v : View) : Type 0 where
  -- the band's numbers are within their ranges
  pub band_allowed : allowed_band v.band ≡ true
  -- there are 1 to 64 links, each between two different nodes
  pub some_link : 1 ≤ v.link_count
  pub at_most_64_links : v.link_count ≤ 64
  pub two_nodes : (k : ℕ) → k < v.link_count → (link_at v.links k).from ≢ (link_at v.links k).to
  -- there are 0 to 200 demands, each ident used once, each demand sound
  pub at_most_200_demands : v.demand_count ≤ 200
  pub idents_once : (j k : ℕ) → j < k → k < v.demand_count → (demand_at v.demands j).ident ≢ (demand_at v.demands k).ident
  pub demands_sound : (k : ℕ) → k < v.demand_count → SoundDemand v.band.slots v.link_count (link_at v.links) (demand_at v.demands k)
