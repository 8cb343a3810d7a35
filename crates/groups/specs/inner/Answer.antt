-- What is known on the way to a plan of groups.
use Rattle.std.specs.Prelude.{ℕ, Ok, ◌≤◌, List, [], ◌∷◌, ◌≡◌, length, take}
use Rattle.theory.specs.Problem.{Row, top}
use Rattle.theory.specs.Walk.{met}
use Rattle.request.specs.Check.{check}
use Rattle.request.specs.View.{View}
use Rattle.request.specs.Sharing.{problem_of}
use Rattle.request.specs.Sound.{SoundRequest}
use Rattle.request.specs.inner.Limits.{Limits}
use Rattle.groups.specs.declared.Grouped.{Grouped}
use Rattle.groups.specs.Reply.{check_groups, grouped, order_told}

-- all tests pass: the request is sound, so many groups can be, and two buffers of these rooms have room
pub record Asked (v : View) (M starts blockers : ℕ) : Type 0 where
  pub passes : check_groups v M (starts ∷ blockers ∷ []) ≡ Ok tt
  pub checked : check v ≡ Ok tt
  pub sound : SoundRequest v
  pub limits : Limits v
  pub some : 1 ≤ M
  pub few : M ≤ 8
  pub many : M ≤ v.demand_count
  pub starts_room : v.demand_count ≤ starts
  pub blockers_room : v.demand_count ≤ blockers

-- the best order of the groups was found, and is the front of what is told of it
pub record FoundOrder (v : View) (M : ℕ) (best : Grouped) : Type 0 where
  pub rows : List Row
  pub order : List ℕ
  pub found : grouped v M ≡ met rows order
  pub long : length order ≡ M
  pub end_is : best.end ≡ top (problem_of v) rows
  pub order_is : best.order ≡ order_told order
  pub front : take M best.order ≡ order
