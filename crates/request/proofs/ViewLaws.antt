-- What a request's view shows: the entries before the counts, and nothing else.
use Rattle.std.specs.Prelude.{ℕ, zero, suc, ◌≤◌, ◌<◌, min, List, [], map, ◌++◌, ◌∷◌, ◌≡◌, refl, length, take, get_or, set}
use Rattle.std.proofs.lemmas.List.{map-append, length-map, take-set-le}
use Rattle.std.proofs.Common.{sym, ap, ◌∙◌, arith, length-take, get_or-take}
use Rattle.std.proofs.Math.ListN.{get_or-map}
use Rattle.request.specs.declared.Link.{Link}
use Rattle.request.specs.declared.Demand.{Demand}
use Rattle.request.specs.declared.Request.{Request}
use Rattle.request.specs.View.{view_demand, view, no_demand, demand_at, idents, DemandView, no_entry}

-- a view has as many links as the request says, or as its array holds
pub links_shown : (r : Request) → length (view r).links ≡ min r.link_count (length r.links)
unfolding view
links_shown r = length-take r.link_count r.links

-- and as many demands
pub demands_shown : (r : Request) → length (view r).demands ≡ min r.demand_count (length r.demands)
unfolding view
demands_shown r =
    length-map (take r.demand_count r.demands) view_demand ∙ length-take r.demand_count r.demands

-- the demand at a position before the count is the array's
pub demand_shown : (r : Request) (k : ℕ) → k < r.demand_count →
    demand_at (view r).demands k ≡ view_demand (get_or r.demands k no_entry)
unfolding view view_demand demand_at no_demand
demand_shown r k h =
    get_or-map view_demand (take r.demand_count r.demands) k no_entry ∙
    ap view_demand (get_or-take r.demand_count r.demands k no_entry h)

-- a link behind the count may be anything
pub link_behind : (r : Request) (k : ℕ) (l : Link) → r.link_count ≤ k →
    view (record { band = r.band; link_count = r.link_count; links = set r.links k l; demand_count = r.demand_count; demands = r.demands }) ≡ view r
unfolding view
link_behind r k l h = rw (take-set-le r.link_count r.links k l h)

-- a demand behind the count may be anything
pub demand_behind : (r : Request) (k : ℕ) (d : Demand) → r.demand_count ≤ k →
    view (record { band = r.band; link_count = r.link_count; links = r.links; demand_count = r.demand_count; demands = set r.demands k d }) ≡ view r
unfolding view
demand_behind r k d h = rw (take-set-le r.demand_count r.demands k d h)

-- an entry of a route behind its length may be anything
pub hop_behind : (d : Demand) (p a : ℕ) → d.hops ≤ p →
    view_demand (record { ident = d.ident; asked = d.asked; hops = d.hops; links = set d.links p a }) ≡ view_demand d
unfolding view_demand
hop_behind d p a h = rw (take-set-le d.hops d.links p a h)

-- a list is as long as any list made of it entry by entry
pub mapped_length : (X Y : Type 0) (f : X → Y) (l : List X) (n : ℕ) → length (map f l) ≡ n → length l ≡ n
mapped_length X Y f l n h = sym (length-map l f) ∙ h

-- what a map makes of the entry at an index
pub map_at : {A B : Type 0} (f : A → B) (l : List A) (k : ℕ) (a : A) (b : B) → k < length l → get_or (map f l) k b ≡ f (get_or l k a)
map_at f [] k a b h = absurd (omega arith)
map_at f (x ∷ l) zero a b h = refl
map_at f (x ∷ l) (suc k) a b h = map_at f l k a b (omega arith)

-- there are as many idents as demands
pub idents_length : (demands : List DemandView) → length (idents demands) ≡ length demands
unfolding idents
idents_length demands = length-map demands (λ (d : DemandView). d.ident)

-- the ident at a position of the idents is the demand's there
pub ident_at : (demands : List DemandView) (k : ℕ) → get_or (idents demands) k 0 ≡ (demand_at demands k).ident
unfolding demand_at no_demand idents
ident_at demands k = get_or-map (λ (d : DemandView). d.ident) demands k no_demand

-- one demand more has one ident more
pub idents_more : (before : List DemandView) (d : DemandView) → idents (before ++ (d ∷ [])) ≡ idents before ++ (d.ident ∷ [])
unfolding idents
idents_more before d = map-append (λ (x : DemandView). x.ident) before (d ∷ [])

-- two results that meet the contract of `route` are equal
pub same_route : (d : Demand) (a b : List ℕ) → a ≡ (view_demand d).route → b ≡ (view_demand d).route → a ≡ b
same_route d a b h k = h ∙ sym k
