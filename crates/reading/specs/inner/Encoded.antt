-- What was read, and the bytes it was read from.
use Rattle.std.specs.Prelude.{ℕ, ◌≤◌, ◌<◌, List, ◌++◌, ◌≡◌, length, drop, Ok}
use Rattle.grid.specs.declared.Band.{Band}
use Rattle.request.specs.declared.Link.{Link}
use Rattle.request.specs.View.{DemandView, View, demand_at, idents}
use Rattle.request.specs.Check.{check_links, check_demands}
use Rattle.request.specs.Encoding.{link_fields, demand_fields}

-- what was read as links after others, up to an offset
pub record LinksEncoded (s : List ℕ) (at : ℕ) (before links : List Link) (end : ℕ) : Type 0 where
  pub more : List Link
  pub all : links ≡ before ++ more
  pub encoded : drop at s ≡ link_fields more ++ drop end s
  pub within : end ≤ length s
  pub some : 0 < length links
  pub few : length links ≤ 64
  pub sound : (k : ℕ) → check_links k more ≡ Ok tt

-- what was read as demands after others, up to the end of the file
pub record DemandsEncoded (S : ℕ) (links : List Link) (s : List ℕ) (at : ℕ) (before demands : List DemandView) : Type 0 where
  pub more : List DemandView
  pub all : demands ≡ before ++ more
  pub encoded : drop at s ≡ demand_fields more
  pub few : length demands ≤ 200
  pub sound : (k : ℕ) → check_demands S links (idents before) k more ≡ Ok tt
  pub counted : (j : ℕ) → j < length more → length (demand_at more j).route ≡ (demand_at more j).hops
  pub named : (j : ℕ) → j < length more → (demand_at more j).ident < 65536

-- a request of links and demands that were read from a file
unfoldable pub request_of : Band → List Link → List DemandView → View
request_of band links demands =
    record { band = band; link_count = length links; links = links; demand_count = length demands; demands = demands }
