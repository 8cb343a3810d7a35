-- The test of a request in memory, in the order of its checks.
use Rattle.std.specs.Prelude.{ℕ, ◌+◌, Bool, true, false, cond, not, ◌&&◌, ◌||◌, List, [], ◌∷◌, ◌++◌, map, length, leb, ltb, eqb, Result, Ok, Err}
use Rattle.refusal.specs.declared.Refusal.{Refusal}
use Rattle.refusal.specs.declared.Refusal.TheVariants.{WrongTag, WrongLength, BandOutside, BadLink, TooManyDemands, BadRoute, IdentUsed, BadWidth, UnknownRate}
use Rattle.grid.specs.declared.Band.{Band}
use Rattle.grid.specs.Grid.{allowed_band, allowed_width}
use Rattle.request.specs.declared.Link.{Link}
use Rattle.request.specs.declared.Asked.{Asked}
use Rattle.request.specs.declared.Asked.TheVariants.{Width, Rate}
use Rattle.request.specs.View.{DemandView, View, link_at, table_rates, width_of}

-- a check, and where it passes the next
unfoldable pub then : Result Unit Refusal → Result Unit Refusal → Result Unit Refusal
then (Ok _) next = next
then (Err why) next = Err why

-- a check: sound where its test holds, else this refusal
unfoldable pub must : Bool → Refusal → Result Unit Refusal
must test why = cond test (Ok tt) (Err why)

-- a number stands in a list
unfoldable pub has : ℕ → List ℕ → Bool
has x [] = false
has x (y ∷ ys) = eqb x y || has x ys

-- each link of a route is one of the n listed
unfoldable pub listed : ℕ → List ℕ → Bool
listed n [] = true
listed n (a ∷ route) = ltb a n && listed n route

-- no number of a list comes again later in it
unfoldable pub once : List ℕ → Bool
unfolding has
once [] = true
once (x ∷ xs) = not (has x xs) && once xs

-- where a link of the route leads to, the next one begins
unfoldable pub unbroken : List Link → List ℕ → Bool
unfolding link_at
unbroken links [] = true
unbroken links (a ∷ []) = true
unbroken links (a ∷ b ∷ route) =
    eqb (link_at links a).to (link_at links b).from && unbroken links (b ∷ route)

-- the nodes of a route: where its first link begins, then where each of its links leads to
unfoldable pub nodes_of : (ℕ → Link) → List ℕ → List ℕ
nodes_of link [] = []
nodes_of link (a ∷ route) = (link a).from ∷ map (λ (b : ℕ). (link b).to) (a ∷ route)

-- a route is sound: only listed links, none twice, no break, and no node twice, the first and the last included
unfoldable pub sound_route : List Link → List ℕ → Bool
unfolding listed once unbroken nodes_of link_at
sound_route links route =
    listed (length links) route && (once route && (unbroken links route && once (nodes_of (link_at links) route)))

-- a route has 1 to 32 links
unfoldable pub allowed_hops : ℕ → Bool
allowed_hops hops = leb 1 hops && leb hops 32

-- 4 at place 0: the band
unfoldable pub check_band : Band → Result Unit Refusal
check_band band = cond (allowed_band band) (Ok tt) (Err (BandOutside 0))

-- 2 at place 0: no link
unfoldable pub check_some_link : ℕ → Result Unit Refusal
check_some_link count = cond (eqb count 0) (Err (WrongTag 0)) (Ok tt)

-- 5 at a link that ends where it begins, the links one by one
unfoldable pub check_links : ℕ → List Link → Result Unit Refusal
unfolding then
check_links k [] = Ok tt
check_links k (l ∷ links) = then (cond (eqb l.from l.to) (Err (BadLink k)) (Ok tt)) (check_links (k + 1) links)

-- 5 at the 65th link
unfoldable pub check_link_count : ℕ → Result Unit Refusal
check_link_count count = cond (ltb 64 count) (Err (BadLink 64)) (Ok tt)

-- what is asked for is a width, or one of the rates in the table
unfoldable pub known_asked : Asked → Bool
unfolding has
known_asked (Width w) = true
known_asked (Rate r) = has r table_rates

-- one demand at its listing position, after demands of these idents: 8, 21, 9, 3, 7
unfoldable pub check_demand : ℕ → List Link → List ℕ → ℕ → DemandView → Result Unit Refusal
unfolding then has known_asked allowed_hops sound_route
check_demand S links earlier k d =
    then (cond (has d.ident earlier) (Err (IdentUsed k)) (Ok tt))
    (then (cond (known_asked d.asked) (Ok tt) (Err (UnknownRate k)))
    (then (cond (allowed_width S (width_of d)) (Ok tt) (Err (BadWidth k)))
    (then (cond (allowed_hops d.hops) (Ok tt) (Err (WrongLength k)))
    (cond (sound_route links d.route) (Ok tt) (Err (BadRoute k))))))

-- the demands one by one
unfoldable pub check_demands : ℕ → List Link → List ℕ → ℕ → List DemandView → Result Unit Refusal
unfolding then check_demand
check_demands S links earlier k [] = Ok tt
check_demands S links earlier k (d ∷ demands) =
    then (check_demand S links earlier k d) (check_demands S links (earlier ++ (d.ident ∷ [])) (k + 1) demands)

-- 6 at the 201st demand
unfoldable pub check_demand_count : ℕ → Result Unit Refusal
check_demand_count count = cond (ltb 200 count) (Err (TooManyDemands 200)) (Ok tt)

-- the whole test: the band, the links, the demands
unfoldable pub check : View → Result Unit Refusal
unfolding then check_band check_some_link check_links check_link_count check_demands check_demand_count
check v =
    then (check_band v.band)
    (then (check_some_link v.link_count)
    (then (check_links 0 v.links)
    (then (check_link_count v.link_count)
    (then (check_demands v.band.slots v.links [] 0 v.demands)
    (check_demand_count v.demand_count)))))
