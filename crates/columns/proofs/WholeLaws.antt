-- The columns of a request tell all of it: two requests of the same band, the same counts and the same columns are one.
use Rattle.std.specs.Prelude.{ℕ, suc, ◌<◌, true, false, ◌≢◌, List, [], ◌∷◌, ◌++◌, ◌≡◌, refl, length, take, drop}
use Rattle.std.proofs.Common.{sym, ap, ap₂, ◌∙◌, arith}
use Rattle.std.proofs.Math.Seq.{take-append_seam, drop-append_seam}
use Rattle.grid.specs.declared.Band.{Band}
use Rattle.request.specs.declared.Link.{Link}
use Rattle.request.specs.declared.Asked.{Asked}
use Rattle.request.specs.declared.Asked.TheVariants.{Width, Rate}
use Rattle.request.specs.View.{DemandView, View, demand_at, idents, asked_width, width_of}
use Rattle.request.specs.Check.{has, known_asked}
use Rattle.columns.specs.Columns.{widths, rate_asked, rates, hop_counts, route_links, link_ends}

-- links that have the same nodes are the same links
pub ends_whole : (xs ys : List Link) → link_ends xs ≡ link_ends ys → xs ≡ ys
unfolding link_ends
ends_whole [] [] h = refl
ends_whole [] (y ∷ ys) h = absurd (omega (arith, ap length h))
ends_whole (x ∷ xs) [] h = absurd (omega (arith, ap length h))
ends_whole (x ∷ xs) (y ∷ ys) h =
    let from : x.from ≡ y.from = cc in
    let to : x.to ≡ y.to = cc in
    let rest : link_ends xs ≡ link_ends ys = cc in
    ap₂ (λ (l : Link) (ls : List Link). l ∷ ls) (ap₂ (λ (a b : ℕ). record { from = a; to = b }) from to) (ends_whole xs ys rest)

-- lists of the same length in front of others are told apart
same_front : (a b c d : List ℕ) → length a ≡ length c → a ++ b ≡ c ++ d → (a ≡ c) × (b ≡ d)
same_front a b c d n h = (
  sym (take-append_seam a b) ∙ (ap₂ (λ (k : ℕ) (l : List ℕ). take k l) n h ∙ take-append_seam c d),
  sym (drop-append_seam a b) ∙ (ap₂ (λ (k : ℕ) (l : List ℕ). drop k l) n h ∙ drop-append_seam c d),
)

-- demands whose routes are as long as they say
abbrev AsLong : List DemandView → Type 0
AsLong demands = (k : ℕ) → k < length demands → length (demand_at demands k).route ≡ (demand_at demands k).hops

-- demands that ask for a width, or for a rate in the table
abbrev AllKnown : List DemandView → Type 0
AllKnown demands = (k : ℕ) → k < length demands → known_asked (demand_at demands k).asked ≡ true

-- no rate of 0 is known
some_rate : (rate : ℕ) → known_asked (Rate rate) ≡ true → rate ≢ 0
unfolding known_asked has
some_rate rate known e = let clash : false ≡ true = rw e at known in absurd (let z : ◌≡◌ {A = ℕ} 0 1 = cc in omega arith)

-- what is asked for is told by its width and its rate
pub same_asked : (a b : Asked) → known_asked a ≡ true → known_asked b ≡ true → asked_width a ≡ asked_width b → rate_asked a ≡ rate_asked b → a ≡ b
unfolding asked_width rate_asked
same_asked (Width w) (Width w') known known' width rate = ap Width width
same_asked (Width w) (Rate r) known known' width rate = absurd (some_rate r known' (sym rate))
same_asked (Rate r) (Width w) known known' width rate = absurd (some_rate r known rate)
same_asked (Rate r) (Rate r') known known' width rate = ap Rate rate

-- a demand is its four parts
same_demand : (x y : DemandView) → x.ident ≡ y.ident → x.asked ≡ y.asked → x.hops ≡ y.hops → x.route ≡ y.route → x ≡ y
same_demand x y i a h r =
    ap₂ (λ (n : ℕ) (q : Asked). record { ident = n; asked = q; hops = x.hops; route = x.route }) i a
    ∙ ap₂ (λ (n : ℕ) (l : List ℕ). record { ident = y.ident; asked = y.asked; hops = n; route = l }) h r

-- such demands with the same columns are the same demands
pub demands_whole : (xs ys : List DemandView) → AsLong xs → AsLong ys → AllKnown xs → AllKnown ys →
    idents xs ≡ idents ys → widths xs ≡ widths ys → rates xs ≡ rates ys → hop_counts xs ≡ hop_counts ys → route_links xs ≡ route_links ys → xs ≡ ys
unfolding idents widths width_of rates hop_counts route_links demand_at
demands_whole [] [] long long' known known' i w a h r = refl
demands_whole [] (y ∷ ys) long long' known known' i w a h r = absurd (omega (arith, ap length i))
demands_whole (x ∷ xs) [] long long' known known' i w a h r = absurd (omega (arith, ap length i))
demands_whole (x ∷ xs) (y ∷ ys) long long' known known' i w a h r =
    let ident : x.ident ≡ y.ident = cc in
    let width : asked_width x.asked ≡ asked_width y.asked = cc in
    let rate : rate_asked x.asked ≡ rate_asked y.asked = cc in
    let asked = same_asked x.asked y.asked (known 0 (omega arith)) (known' 0 (omega arith)) width rate in
    let hops : x.hops ≡ y.hops = cc in
    let i' : idents xs ≡ idents ys = cc in
    let w' : widths xs ≡ widths ys = cc in
    let a' : rates xs ≡ rates ys = cc in
    let h' : hop_counts xs ≡ hop_counts ys = cc in
    let first : length x.route ≡ x.hops = long 0 (omega arith) in
    let second : length y.route ≡ y.hops = long' 0 (omega arith) in
    let parts = same_front x.route (route_links xs) y.route (route_links ys) (first ∙ (hops ∙ sym second)) r in
    ap₂ (λ (d : DemandView) (ds : List DemandView). d ∷ ds) (same_demand x y ident asked hops parts.0)
    (demands_whole xs ys (λ (k : ℕ) (more : k < length xs). long (suc k) (omega arith)) (λ (k : ℕ) (more : k < length ys). long' (suc k) (omega arith))
    (λ (k : ℕ) (more : k < length xs). known (suc k) (omega arith)) (λ (k : ℕ) (more : k < length ys). known' (suc k) (omega arith)) i' w' a' h' parts.1)

-- two requests with the same band, counts and columns are equal
pub columns_whole : (v v' : View) → AsLong v.demands → AsLong v'.demands → AllKnown v.demands → AllKnown v'.demands →
    v.band ≡ v'.band → v.link_count ≡ v'.link_count → v.demand_count ≡ v'.demand_count →
    idents v.demands ≡ idents v'.demands → widths v.demands ≡ widths v'.demands → rates v.demands ≡ rates v'.demands →
    link_ends v.links ≡ link_ends v'.links → hop_counts v.demands ≡ hop_counts v'.demands → route_links v.demands ≡ route_links v'.demands → v ≡ v'
columns_whole v v' long long' known known' band links demands i w a e h r =
    ap (λ (b : Band). record { band = b; link_count = v.link_count; links = v.links; demand_count = v.demand_count; demands = v.demands }) band
    ∙ (ap₂ (λ (L K : ℕ). record { band = v'.band; link_count = L; links = v.links; demand_count = K; demands = v.demands }) links demands
    ∙ ap₂ (λ (ls : List Link) (ds : List DemandView). record { band = v'.band; link_count = v'.link_count; links = ls; demand_count = v'.demand_count; demands = ds })
    (ends_whole v.links v'.links e) (demands_whole v.demands v'.demands long long' known known' i w a h r))
