-- What groups promise, in the planner's words: the best of all orders of the groups, and the first of its kind.
use Rattle.std.specs.Prelude.{ℕ, ◌≤◌, ◌<◌, List, ◌≡◌, take, Option, Some, None, Result, Ok, Err}
use Rattle.refusal.specs.declared.Refusal.{Refusal}
use Rattle.theory.specs.Arrange.{Arrange}
use Rattle.theory.specs.Earlier.{Lower}
use Rattle.theory.specs.Groups.{members}
use Rattle.theory.specs.Orders.{listing}
use Rattle.theory.specs.Problem.{Row, placed, refused, top}
use Rattle.request.specs.View.{View}
use Rattle.request.specs.Sharing.{problem_of}
use Rattle.placing.specs.FirstFit.{fitted, first_fit_reply, first_fit_starts, first_fit_blockers}
use Rattle.search.specs.declared.Outcome.{Outcome}
use Rattle.search.specs.declared.Outcome.TheVariants.{Finished, NothingFits, Unfinished, UnfinishedEmpty}
use Rattle.groups.specs.declared.Grouped.{Grouped}
use Rattle.groups.specs.Reply.{groups_starts, groups_blockers}

-- an order of M groups lists each group once
unfoldable pub GroupOrder : ℕ → List ℕ → Type 0
GroupOrder M order = Arrange order (listing M)

-- first fit along a group order places all demands inside the band, and its plan ends at e
pub record PlacedAlong (v : View) (M : ℕ) (order : List ℕ) (e : ℕ) : Type 0 where
  pub rows : List Row
  pub places : fitted v (members v.demand_count M order) ≡ placed rows
  pub ends : top (problem_of v) rows ≡ e

-- first fit along a group order refuses a demand
pub record RefusedAlong (v : View) (M : ℕ) (order : List ℕ) : Type 0 where
  pub rows : List Row
  pub demand : ℕ
  pub refuses : fitted v (members v.demand_count M order) ≡ refused rows demand

-- the best of all group orders: first fit places all along it, no group order gives a lower end, and each that is listed before it a higher
-- one, or is refused
pub record BestOfGroups (v : View) (M e : ℕ) (order : List ℕ) : Type 0 where
  pub a_group_order : GroupOrder M order
  pub places : PlacedAlong v M order e
  pub none_lower : (other : List ℕ) (end : ℕ) → GroupOrder M other → PlacedAlong v M other end → e ≤ end
  pub first : (other : List ℕ) (end : ℕ) → GroupOrder M other → Lower other order → PlacedAlong v M other end → e < end

-- what each reply promises; nothing found means that first fit refuses along every group order
unfoldable pub Promised : View → ℕ → Result (Option Grouped) Refusal → Type 0
unfolding GroupOrder
Promised v M (Ok (Some plan)) = BestOfGroups v M plan.end (take M plan.order)
Promised v M (Ok None) = (other : List ℕ) → GroupOrder M other → RefusedAlong v M other
Promised v M (Err why) = Unit {0}

-- first fit, called along the order told with the same buffers, replies with the end told, and the buffers hold afterwards what it writes,
-- in which each demand has its lowest free start
pub record WrittenAlong (v : View) (M e : ℕ) (order rooms starts blockers : List ℕ) : Type 0 where
  pub replies : first_fit_reply v (members v.demand_count M order) rooms ≡ Ok e
  pub starts_are : groups_starts v M rooms starts ≡ first_fit_starts v (members v.demand_count M order) rooms starts
  pub blockers_are : groups_blockers v M rooms blockers ≡ first_fit_blockers v (members v.demand_count M order) rooms blockers

-- the outcome of a search in the words of groups; of one that was stopped nothing is said
unfoldable pub grouping_of : Outcome → Result (Option Grouped) Refusal → Type 0
grouping_of (Finished e) reply = (plan : Grouped) × (reply ≡ Ok (Some plan)) × (plan.end ≡ e)
grouping_of NothingFits reply = reply ≡ Ok None
grouping_of (Unfinished e) reply = Unit {0}
grouping_of UnfinishedEmpty reply = Unit {0}

-- groups of one demand each find what a search found: the same end, or nothing where nothing fits; and along the same order
pub record AsSearch (K : ℕ) (outcome : Outcome) (order : List ℕ) (reply : Result (Option Grouped) Refusal) : Type 0 where
  pub same_outcome : grouping_of outcome reply
  pub same_order : (e : ℕ) (plan : Grouped) → outcome ≡ Finished e → reply ≡ Ok (Some plan) → take K plan.order ≡ order
