-- The answer of the test, as the steps of the code meet it.
use Rattle.std.specs.Prelude.{ℕ, ◌+◌, ◌≤◌, ◌<◌, true, false, List, [], ◌∷◌, ◌++◌, ◌≢◌, ◌≡◌, length, drop, set, Result, Ok, Err}
use Rattle.std.proofs.Common.{sym, ◌∙◌, arith, add-one, take-suc-set}
use Rattle.std.proofs.Math.Path.{ap}
use Rattle.std.proofs.Math.ListN.{take, get_or, length-set}
use Rattle.refusal.specs.declared.Refusal.{Refusal}
use Rattle.refusal.specs.declared.Refusal.TheVariants.{WrongTag, BandOutside, BadLink, TooManyDemands}
use Rattle.grid.specs.declared.Band.{Band}
use Rattle.grid.specs.Grid.{allowed_band}
use Rattle.request.specs.declared.Link.{Link}
use Rattle.request.specs.declared.Request.{Request}
use Rattle.request.specs.View.{View, view, view_demand, demand_at, no_entry}
use Rattle.request.specs.Check.{then, check_band, check_some_link, check_links, check_link_count, check_demand, check_demands, check_demand_count, check}
use Rattle.request.specs.Steps.{check_all_links, check_ground}
use Rattle.request.specs.inner.Met.{check_from, Met}
use Rattle.request.proofs.ViewLaws.{demands_shown, demand_shown}
use Rattle.request.proofs.CheckLaws.{then_sound, then_refused, then_assoc, band_passes, band_refused, no_link_lem, some_link_lem, too_many_links, few_links, too_many_demands, few_demands, demands_pass, demands_refused_lem, demands_end}

-- the checks of the band and the links come first, those of the demands after them
ground_first : (v : View) → check v ≡ then (check_ground v.band v.link_count v.links) (check_from v [] 0)
unfolding check check_ground check_all_links check_from
ground_first v =
    let band = check_band v.band in
    let some = check_some_link v.link_count in
    let links = check_links 0 v.links in
    let count = check_link_count v.link_count in
    let rest = check_from v [] 0 in
    ap (λ (c : Result Unit Refusal). then band (then some c)) (then_assoc links count rest) ∙
    (ap (λ (c : Result Unit Refusal). then band c) (then_assoc some (then links count) rest) ∙ then_assoc band (then some (then links count)) rest)

-- where there is no link, 2 at place 0
pub no_link_refused : (count : ℕ) (links : List Link) → count ≡ 0 → check_all_links count links ≡ Err (WrongTag 0)
unfolding check_all_links
no_link_refused count links h =
    then_refused (check_some_link count) (then (check_links 0 links) (check_link_count count)) (WrongTag 0) (no_link_lem count h)

-- where there are links, they are looked at
some_links : (count : ℕ) (links : List Link) → count ≢ 0 → check_all_links count links ≡ then (check_links 0 links) (check_link_count count)
unfolding check_all_links
some_links count links h = then_sound (check_some_link count) (then (check_links 0 links) (check_link_count count)) (some_link_lem count h)

-- a link that is refused
pub links_refused_lem : (count : ℕ) (links : List Link) (k : ℕ) → count ≢ 0 → check_links 0 links ≡ Err (BadLink k) →
    check_all_links count links ≡ Err (BadLink k)
links_refused_lem count links k some refused =
    some_links count links some ∙ then_refused (check_links 0 links) (check_link_count count) (BadLink k) refused

-- one link too many
pub links_too_many : (count : ℕ) (links : List Link) → check_links 0 links ≡ Ok tt → 64 < count →
    check_all_links count links ≡ Err (BadLink 64)
links_too_many count links sound many =
    some_links count links (λ (z : count ≡ 0). omega arith) ∙
    (then_sound (check_links 0 links) (check_link_count count) sound ∙ too_many_links count many)

-- links that all pass
pub links_pass : (count : ℕ) (links : List Link) → count ≢ 0 → check_links 0 links ≡ Ok tt → count ≤ 64 →
    check_all_links count links ≡ Ok tt
links_pass count links some sound few =
    some_links count links some ∙ (then_sound (check_links 0 links) (check_link_count count) sound ∙ few_links count few)

-- over an allowed band the links decide
pub ground_links : (band : Band) (count : ℕ) (links : List Link) → allowed_band band ≡ true →
    check_ground band count links ≡ check_all_links count links
unfolding check_ground
ground_links band count links h = then_sound (check_band band) (check_all_links count links) (band_passes band h)

-- a band that is not allowed is refused
pub ground_band : (band : Band) (count : ℕ) (links : List Link) → allowed_band band ≡ false →
    check_ground band count links ≡ Err (BandOutside 0)
unfolding check_ground
ground_band band count links h = then_refused (check_band band) (check_all_links count links) (BandOutside 0) (band_refused band h)

-- where the band or a link is refused, so is the request
pub ground_refused : (r : Request) (why : Refusal) →
    check_ground r.band r.link_count (take r.link_count r.links) ≡ Err why → check (view r) ≡ Err why
unfolding view
ground_refused r why refused =
    ground_first (view r) ∙
    then_refused (check_ground r.band r.link_count (take r.link_count r.links)) (check_from (view r) [] 0) why refused

-- where they pass, the demands are looked at, from the first on
pub ground_passes : (r : Request) (idents : List ℕ) → length idents ≡ 200 →
    check_ground r.band r.link_count (take r.link_count r.links) ≡ Ok tt → Met r idents 0
unfolding view
ground_passes r idents room sound =
    record {
      within = omega arith;
      within_array = omega arith;
      room = room;
      answer =
          ground_first (view r) ∙
          then_sound (check_ground r.band r.link_count (take r.link_count r.links)) (check_from (view r) [] 0) sound;
    }

module _ (r : Request) (idents : List ℕ) (k : ℕ) (met : Met r idents k) (all : length r.demands ≡ 200) where
  -- behind 200 demands another is one too many
  pub met_too_many : k ≡ 200 → k < r.demand_count → check (view r) ≡ Err (TooManyDemands 200)
  unfolding view check_from
  met_too_many full more =
      met.answer ∙
      (then_sound (check_demands r.band.slots (view r).links (take k idents) k (drop k (view r).demands)) (check_demand_count r.demand_count)
      (demands_end r.band.slots (view r).links (take k idents) (view r).demands k (omega (arith, demands_shown r))) ∙
      too_many_demands r.demand_count (omega arith))

  -- behind the last demand the request is sound
  pub met_all : r.demand_count ≤ k → check (view r) ≡ Ok tt
  unfolding view check_from
  met_all last =
      met.answer ∙
      (then_sound (check_demands r.band.slots (view r).links (take k idents) k (drop k (view r).demands)) (check_demand_count r.demand_count)
      (demands_end r.band.slots (view r).links (take k idents) (view r).demands k (omega (arith, demands_shown r))) ∙
      few_demands r.demand_count (omega (arith, met.within_array)))

  -- where the next demand is refused, so is the request
  pub met_refused : (why : Refusal) → k < r.demand_count → k < 200 →
      check_demand r.band.slots (view r).links (take k idents) k
      (view_demand (get_or r.demands k no_entry)) ≡ Err why →
      check (view r) ≡ Err why
  unfolding view check_from
  met_refused why more room refused =
      met.answer ∙
      then_refused (check_demands r.band.slots (view r).links (take k idents) k (drop k (view r).demands))
      (check_demand_count r.demand_count) why
      (demands_refused_lem r.band.slots (view r).links (take k idents) (view r).demands k why
      (omega (arith, demands_shown r)) (rw (demand_shown r k more) refused))

  -- where it passes, its ident is kept and the one behind it is next
  pub met_on : k < r.demand_count → k < 200 →
      check_demand r.band.slots (view r).links (take k idents) k
      (view_demand (get_or r.demands k no_entry)) ≡ Ok tt →
      Met r (set idents k (get_or r.demands k no_entry).ident) (k + 1)
  unfolding view check_from view_demand
  met_on more room sound =
      let demand = get_or r.demands k no_entry in
      let at-k : demand_at (view r).demands k ≡ view_demand demand = demand_shown r k more in
      let kept : take (k + 1) (set idents k demand.ident) ≡ take k idents ++ (demand.ident ∷ [])
      = rw (add-one k) (take-suc-set idents k demand.ident (omega (arith, met.room))) in
      let passed = demands_pass r.band.slots (view r).links (take k idents) (view r).demands k (omega (arith, demands_shown r)) (rw at-k sound) in
      let on : check_demands r.band.slots (view r).links (take k idents) k (drop k (view r).demands) ≡
      check_demands r.band.slots (view r).links (take (k + 1) (set idents k demand.ident)) (k + 1) (drop (k + 1) (view r).demands)
      = rw kept (rw at-k at passed) in
      record {
        within = omega arith;
        within_array = omega arith;
        room = length-set idents k demand.ident ∙ met.room;
        answer =
            met.answer ∙
            ap (λ (c : Result Unit Refusal). then c (check_demand_count r.demand_count)) on;
      }

-- two results of the test of the band and the links are equal
pub same_ground : (band : Band) (count : ℕ) (links : List Link) (a b : Result Unit Refusal) →
    a ≡ check_ground band count (take count links) → b ≡ check_ground band count (take count links) → a ≡ b
same_ground band count links a b ha hb = ha ∙ sym hb
