-- The test of a request in two steps: the band and the links, then demand after demand.
use Rattle.refusal.specs.declared.Refusal.{Refusal}
use Rattle.std.specs.Prelude.{ℕ, List, Result}
use Rattle.grid.specs.declared.Band.{Band}
use Rattle.request.specs.declared.Link.{Link}
use Rattle.request.specs.Check.{then, check_band, check_some_link, check_links, check_link_count}

-- the links: 2 if there is none, 5 one by one
unfoldable pub check_all_links : ℕ → List Link → Result Unit Refusal
unfolding then check_some_link check_links check_link_count
check_all_links count links = then (check_some_link count) (then (check_links 0 links) (check_link_count count))

-- the band, then the links
unfoldable pub check_ground : Band → ℕ → List Link → Result Unit Refusal
unfolding then check_band check_all_links
check_ground band count links = then (check_band band) (check_all_links count links)
