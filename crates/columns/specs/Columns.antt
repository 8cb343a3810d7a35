-- A request's numbers as columns: what each lent buffer holds afterwards, and what the two calls answer.
use Rattle.refusal.specs.declared.Refusal.{Refusal}
use Rattle.std.specs.Prelude.{ℕ, List, [], ◌∷◌, ◌++◌, map, length, Result}
use Rattle.request.specs.declared.Link.{Link}
use Rattle.request.specs.declared.Asked.{Asked}
use Rattle.request.specs.declared.Asked.TheVariants.{Width, Rate}
use Rattle.request.specs.View.{DemandView, View, width_of, idents}
use Rattle.request.specs.Check.{then, check}
use Rattle.lent.specs.Lent.{check_room, check_rooms, over, unless_refused, write_answer}

-- ---- the columns

-- the widths of some demands
unfoldable pub widths : List DemandView → List ℕ
widths demands = map (λ (d : DemandView). width_of d) demands

-- the rate that is asked for, 0 where a width is: no sound request asks for a rate of 0
unfoldable pub rate_asked : Asked → ℕ
rate_asked (Width w) = 0
rate_asked (Rate r) = r

-- the rates that some demands ask for
unfoldable pub rates : List DemandView → List ℕ
unfolding rate_asked
rates demands = map (λ (d : DemandView). rate_asked d.asked) demands

-- how many links the route of each has
unfoldable pub hop_counts : List DemandView → List ℕ
hop_counts demands = map (λ (d : DemandView). d.hops) demands

-- the links of all their routes, one route after the other
unfoldable pub route_links : List DemandView → List ℕ
route_links [] = []
route_links (d ∷ demands) = d.route ++ route_links demands

-- the nodes of some links: where each begins, then where it leads to
unfoldable pub link_ends : List Link → List ℕ
link_ends [] = []
link_ends (l ∷ links) = l.from ∷ l.to ∷ link_ends links

-- ---- the buffers for the demands

-- the buffers that are lent for the columns of the demands: for the idents, for the widths and for the rates
pub record DemandBuffers : Type 0 where
  pub idents : List ℕ
  pub widths : List ℕ
  pub rates : List ℕ

-- the three as they are lent
abbrev pub lent_demands : List ℕ → List ℕ → List ℕ → DemandBuffers
lent_demands idents widths rates = record { idents = idents; widths = widths; rates = rates }

-- how many entries each has room for, in the sequence in which they are tested
unfoldable pub demand_rooms : DemandBuffers → List ℕ
demand_rooms lent = length lent.idents ∷ length lent.widths ∷ length lent.rates ∷ []

-- ---- what is tested: 10 where a buffer has less room than its column has entries

-- the request, then each buffer for the demands, K entries each
unfoldable pub check_demand_columns : View → List ℕ → Result Unit Refusal
unfolding then check check_rooms
check_demand_columns v rooms = then (check v) (check_rooms v.demand_count rooms)

-- the request, then the buffer of the links' nodes, that of the counts, and that of the routes
unfoldable pub check_route_columns : View → ℕ → ℕ → ℕ → Result Unit Refusal
unfolding then check check_room
check_route_columns v ends_room hops_room routes_room =
    then (check v)
    (then (check_room (length (link_ends v.links)) ends_room)
    (then (check_room (length (hop_counts v.demands)) hops_room) (check_room (length (route_links v.demands)) routes_room)))

-- ---- what is answered

-- the answer of `demand_columns`: how many demands there are
unfoldable pub demand_reply : View → List ℕ → Result ℕ Refusal
unfolding check_demand_columns write_answer
demand_reply v rooms = write_answer (check_demand_columns v rooms) v.demand_count

-- the answer of `route_columns`: how many links all routes have
unfoldable pub route_reply : View → ℕ → ℕ → ℕ → Result ℕ Refusal
unfolding check_route_columns write_answer route_links
route_reply v ends_room hops_room routes_room =
    write_answer (check_route_columns v ends_room hops_room routes_room) (length (route_links v.demands))

-- ---- the buffers afterwards: the column at the front and the rest as it was; all as it was where refused

-- the columns of some demands, each at the front of its buffer
unfoldable pub demands_over : List DemandView → DemandBuffers → DemandBuffers
unfolding widths rates over
demands_over demands lent =
    record {
      idents = over (idents demands) lent.idents;
      widths = over (widths demands) lent.widths;
      rates = over (rates demands) lent.rates;
    }

-- the buffers for the demands
unfoldable pub demands_after : View → DemandBuffers → DemandBuffers
unfolding check_demand_columns demand_rooms demands_over unless_refused
demands_after v lent = unless_refused (check_demand_columns v (demand_rooms lent)) lent (demands_over v.demands lent)

-- the buffer of the links' nodes
unfoldable pub ends_after : View → List ℕ → List ℕ → List ℕ → List ℕ
unfolding check_route_columns
ends_after v ends hops routes =
    unless_refused (check_route_columns v (length ends) (length hops) (length routes)) ends (over (link_ends v.links) ends)

-- the buffer of the counts
unfoldable pub hops_after : View → List ℕ → List ℕ → List ℕ → List ℕ
unfolding check_route_columns
hops_after v ends hops routes =
    unless_refused (check_route_columns v (length ends) (length hops) (length routes)) hops (over (hop_counts v.demands) hops)

-- the buffer of the routes
unfoldable pub routes_after : View → List ℕ → List ℕ → List ℕ → List ℕ
unfolding check_route_columns
routes_after v ends hops routes =
    unless_refused (check_route_columns v (length ends) (length hops) (length routes)) routes (over (route_links v.demands) routes)
