-- Who shares a link with one demand.
use Rattle.std.specs.Prelude.{ℕ, Bool, List, map}
use Rattle.theory.specs.Orders.{listing}
use Rattle.request.specs.View.{DemandView, demand_at}
use Rattle.request.specs.Sharing.{share_link}

-- of 200 listing positions, which share a link with demand i; a position without a demand shares none
unfoldable pub meeting_row : List DemandView → ℕ → List Bool
unfolding share_link demand_at listing
meeting_row demands i = map (λ (j : ℕ). share_link (demand_at demands j).route (demand_at demands i).route) (listing 200)
