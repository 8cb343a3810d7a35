-- The bound of a request: what its links need.
use Rattle.std.specs.Prelude.{ℕ, zero, suc, ◌+◌, ◌-◌, ◌*◌, max, cond, List, [], ◌∷◌}
use Rattle.request.specs.View.{DemandView, View, width_of}
use Rattle.request.specs.Check.{has}

-- the sum of the widths of the demands on a link
unfoldable pub width_on : ℕ → List DemandView → ℕ
unfolding has
width_on link [] = 0
width_on link (d ∷ demands) = cond (has link d.route) (width_of d + width_on link demands) (width_on link demands)

-- how many demands are on a link
unfoldable pub demands_on : ℕ → List DemandView → ℕ
unfolding has
demands_on link [] = 0
demands_on link (d ∷ demands) = cond (has link d.route) (1 + demands_on link demands) (demands_on link demands)

-- what a link needs: its widths and a guard between each two neighbours; nothing where no demand is on it
unfoldable pub link_bound : View → ℕ → ℕ
unfolding width_on demands_on
link_bound v link = width_on link v.demands + v.band.guard * (demands_on link v.demands - 1)

-- the largest need of the first n links
unfoldable pub bound_over : View → ℕ → ℕ
unfolding link_bound
bound_over v zero = 0
bound_over v (suc n) = max (bound_over v n) (link_bound v n)

-- the bound of a request: the largest need of a link
unfoldable pub bound_of : View → ℕ
unfolding bound_over
bound_of v = bound_over v v.link_count
