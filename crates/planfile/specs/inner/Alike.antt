-- Starts that agree where a plan has demands.
use Rattle.std.specs.Prelude.{ℕ, ◌<◌, List, ◌≡◌}
use Rattle.request.specs.View.{View}
use Rattle.meeting.specs.Plan.{start_at}

-- starts that are the same for each demand
abbrev pub Alike : View → List ℕ → List ℕ → Type 0
Alike v a b = (k : ℕ) → k < v.demand_count → start_at a k ≡ start_at b k
