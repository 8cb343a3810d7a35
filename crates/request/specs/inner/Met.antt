-- How far the test of a request's demands has come.
use Rattle.refusal.specs.declared.Refusal.{Refusal}
use Rattle.std.specs.Prelude.{ℕ, ◌≤◌, List, ◌≡◌, length, take, drop, Result}
use Rattle.request.specs.declared.Request.{Request}
use Rattle.request.specs.View.{View, view}
use Rattle.request.specs.Check.{then, check_demands, check_demand_count, check}

-- the demands from the k-th on, after demands of these idents, then their number
unfoldable pub check_from : View → List ℕ → ℕ → Result Unit Refusal
unfolding then check_demands check_demand_count
check_from v earlier k =
    then (check_demands v.band.slots v.links earlier k (drop k v.demands)) (check_demand_count v.demand_count)

-- the first k demands of a request have passed, their idents are kept, and the answer is what the others give
pub record Met (r : Request) (idents : List ℕ) (k : ℕ) : Type 0 where
  pub within : k ≤ r.demand_count
  pub within_array : k ≤ 200
  pub room : length idents ≡ 200
  pub answer : check (view r) ≡ check_from (view r) (take k idents) k
