-- Who shares a link with whom, and the problem that a request poses.
use Rattle.std.specs.Prelude.{ℕ, Bool, false, ◌||◌, List, [], ◌∷◌}
use Rattle.theory.specs.Problem.{Problem}
use Rattle.request.specs.View.{View, demand_at, width_of}
use Rattle.request.specs.Check.{has}

-- two routes share a link
unfoldable pub share_link : List ℕ → List ℕ → Bool
unfolding has
share_link [] route = false
share_link (a ∷ more) route = has a route || share_link more route

-- the problem of a request: demands go by listing position, and the guard is kept between any two that share a link
unfoldable pub problem_of : View → Problem
unfolding share_link demand_at
problem_of v =
    record {
      width = λ i. width_of (demand_at v.demands i);
      joined = λ i j. share_link (demand_at v.demands i).route (demand_at v.demands j).route;
      gap = λ i j. v.band.guard;
    }
