-- A request seen as lists: what stands behind a count is not seen, and so means nothing.
use Rattle.std.specs.Prelude.{ℕ, cond, List, [], ◌∷◌, map, take, get_or, eqb}
use Rattle.grid.specs.declared.Band.{Band}
use Rattle.request.specs.declared.Link.{Link}
use Rattle.request.specs.declared.Asked.{Asked}
use Rattle.request.specs.declared.Asked.TheVariants.{Width, Rate}
use Rattle.request.specs.declared.Demand.{Demand}
use Rattle.request.specs.declared.Request.{Request}

-- a demand: its ident, what it asks for, how many links it says it has, and the links of its route
pub record DemandView : Type 0 where
  pub ident : ℕ
  pub asked : Asked
  pub hops : ℕ
  pub route : List ℕ

-- the bit rates that can be asked for, in Gbit/s, each with the slots that it takes
abbrev pub rate_table : List (List ℕ)
rate_table = (10 ∷ 1 ∷ []) ∷ (40 ∷ 1 ∷ []) ∷ (100 ∷ 2 ∷ []) ∷ (400 ∷ 8 ∷ []) ∷ (1000 ∷ 20 ∷ []) ∷ []

-- the second entry of the first row that begins with a rate, 0 where there is none
unfoldable pub looked_up : ℕ → List (List ℕ) → ℕ
looked_up rate [] = 0
looked_up rate (row ∷ rows) = cond (eqb rate (get_or row 0 0)) (get_or row 1 0) (looked_up rate rows)

-- the rates in the table
abbrev pub table_rates : List ℕ
table_rates = map (λ (row : List ℕ). get_or row 0 0) rate_table

-- the slots that a rate takes, 0 for one that is not in the table
unfoldable pub rate_width : ℕ → ℕ
unfolding looked_up
rate_width rate = looked_up rate rate_table

-- the width that follows from what is asked for
unfoldable pub asked_width : Asked → ℕ
unfolding rate_width
asked_width (Width w) = w
asked_width (Rate r) = rate_width r

-- the width of a demand
unfoldable pub width_of : DemandView → ℕ
unfolding asked_width
width_of d = asked_width d.asked

-- a request: its band, how many links and demands it says it has, and those
pub record View : Type 0 where
  pub band : Band
  pub link_count : ℕ
  pub links : List Link
  pub demand_count : ℕ
  pub demands : List DemandView

-- a demand as a list sees it: its route is its first `hops` links
unfoldable pub view_demand : Demand → DemandView
view_demand d = record { ident = d.ident; asked = d.asked; hops = d.hops; route = take d.hops d.links }

-- a request as lists see it: its first links and its first demands, as many as it says
unfoldable pub view : Request → View
unfolding view_demand
view r =
    record {
      band = r.band;
      link_count = r.link_count;
      links = take r.link_count r.links;
      demand_count = r.demand_count;
      demands = map view_demand (take r.demand_count r.demands);
    }

-- what stands where there is no link
unfoldable pub no_link : Link
no_link = record { from = 0; to = 0 }

-- what stands where there is no demand
unfoldable pub no_demand : DemandView
no_demand = record { ident = 0; asked = Width 0; hops = 0; route = [] }

-- what stands behind the end of an array of demands
abbrev pub no_entry : Demand
no_entry = record { ident = 0; asked = Width 0; hops = 0; links = [] }

-- the link of a number
unfoldable pub link_at : List Link → ℕ → Link
unfolding no_link
link_at links k = get_or links k no_link

-- the demand at a listing position
unfoldable pub demand_at : List DemandView → ℕ → DemandView
unfolding no_demand
demand_at demands k = get_or demands k no_demand

-- the idents of some demands
unfoldable pub idents : List DemandView → List ℕ
idents demands = map (λ (d : DemandView). d.ident) demands
