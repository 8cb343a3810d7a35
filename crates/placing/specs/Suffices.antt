-- First fit suffices, in the planner's words: in the order of a plan's starts it does as well as the plan.
use Rattle.std.specs.Prelude.{ℕ, ◌+◌, ◌≤◌, ◌<◌, List, [], ◌∷◌, ◌≡◌}
use Rattle.theory.specs.Arrange.{Arrange}
use Rattle.theory.specs.ByStart.{ByStart}
use Rattle.theory.specs.Orders.{listing}
use Rattle.request.specs.View.{View, demand_at, width_of}
use Rattle.placing.specs.FirstFit.{first_fit_reply, first_fit_starts, placed_told}
use Rattle.meeting.specs.Plan.{start_at, end_of_plan}

-- an order lists the demands by a plan's starts; where those are equal, as they are listed
pub record OrderByStart (v : View) (plan order : List ℕ) : Type 0 where
  pub an_order : Arrange order (listing v.demand_count)
  pub by_start : ByStart (start_at plan) (listing v.demand_count) order

-- the end of demand i in a plan
unfoldable pub end_in : View → List ℕ → ℕ → ℕ
unfolding start_at
end_in v plan i = start_at plan i + width_of (demand_at v.demands i)

-- first fit in an order, with buffers of these rooms, does as well as a plan: it places all demands, each as low as the plan does or lower, and so the whole
pub record AsLowAs (v : View) (plan order rooms starts : List ℕ) : Type 0 where
  pub end : ℕ
  pub not_refused : placed_told (first_fit_reply v order rooms) ≡ (0, end ∷ [])
  pub none_higher : (i : ℕ) → i < v.demand_count → end_in v (first_fit_starts v order rooms starts) i ≤ end_in v plan i
  pub end_no_higher : end ≤ end_of_plan v plan
