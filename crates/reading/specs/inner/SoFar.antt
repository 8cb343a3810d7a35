-- The reader between two fields: what it has, and that what follows decides the rest.
use Rattle.std.specs.Prelude.{ℕ, ◌-◌, ◌≤◌, List, [], map, ◌≡◌, length}
use Rattle.request.specs.declared.Link.{Link}
use Rattle.request.specs.declared.Demand.{Demand}
use Rattle.request.specs.View.{DemandView, no_link, idents}
use Rattle.reading.specs.Reading.{read_links, read_demands}
use Rattle.request.specs.Packing.{padded, empty_demand, pack_demand}

-- the reading of the links after `count` of them: the array holds them, and what follows decides the rest
pub record LinksSoFar (s : List ℕ) (at count : ℕ) (array : List Link) : Type 0 where
  pub links : List Link
  pub counted : length links ≡ count
  pub few : count ≤ 64
  pub within : at ≤ length s
  pub stored : array ≡ padded 64 no_link links
  pub goes_on : read_links (65 - count) s at links ≡ read_links 65 s 8 []

-- the reading of the demands after `count` of them: the arrays hold them and their idents, and what follows decides the rest
pub record DemandsSoFar (S : ℕ) (links : List Link) (s : List ℕ) (start at count : ℕ) (array : List Demand) (used : List ℕ) : Type 0 where
  pub demands : List DemandView
  pub counted : length demands ≡ count
  pub few : count ≤ 200
  pub within : at ≤ length s
  pub stored : array ≡ padded 200 empty_demand (map pack_demand demands)
  pub named : used ≡ padded 200 0 (idents demands)
  pub goes_on : read_demands (201 - count) S links s at demands ≡ read_demands 201 S links s start []
