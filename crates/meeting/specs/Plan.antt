-- When a plan is allowed, told by the slots that its demands hold on each link.
use Rattle.std.specs.Prelude.{ℕ, ◌+◌, ◌<◌, ◌≤◌, max, true, List, [], ◌∷◌, map, ◌⊎◌, ◌≢◌, ◌≡◌, get_or}
use Rattle.theory.specs.Problem.{Row, start_in}
use Rattle.theory.specs.Orders.{listing}
use Rattle.request.specs.View.{DemandView, View, demand_at, width_of}
use Rattle.request.specs.Check.{has}

-- the start that a list of starts gives the demand at a listing position
unfoldable pub start_at : List ℕ → ℕ → ℕ
start_at starts i = get_or starts i 0

-- contiguity and continuity: demand i holds the slots from its start on, as many as it is wide, the same on each link of its route
pub record Holds (v : View) (starts : List ℕ) (i link slot : ℕ) : Type 0 where
  pub on_route : has link (demand_at v.demands i).route ≡ true
  pub from_start : start_at starts i ≤ slot
  pub below_end : slot < start_at starts i + width_of (demand_at v.demands i)

-- two slots of one link are parted by the guard: one is more than G below the other, so they are never the same slot
abbrev pub Parted : ℕ → ℕ → ℕ → Type 0
Parted G x y = (x + G < y) ⊎ (y + G < x)

-- an allowed plan: every slot held is inside the band, and on each link the slots of two demands are parted by the guard
pub record AllowedPlan (v : View) (starts : List ℕ) : Type 0 where
  pub inside : (i link slot : ℕ) → i < v.demand_count → Holds v starts i link slot → slot < v.band.slots
  pub parted : (i j link x y : ℕ) → i < v.demand_count → j < v.demand_count → i ≢ j
      → Holds v starts i link x → Holds v starts j link y → Parted v.band.guard x y

-- the end of a list of demands from a listing position on, 0 when there is none
unfoldable pub end_from : List ℕ → ℕ → List DemandView → ℕ
unfolding start_at
end_from starts k [] = 0
end_from starts k (d ∷ demands) = max (start_at starts k + width_of d) (end_from starts (k + 1) demands)

-- the plan's end: the highest of its ends, or 0 without demands
unfoldable pub end_of_plan : View → List ℕ → ℕ
unfolding end_from
end_of_plan v starts = end_from starts 0 v.demands

-- the starts by listing position that rows give K demands
unfoldable pub starts_of : ℕ → List Row → List ℕ
unfolding start_in listing
starts_of K rows = map (start_in rows) (listing K)
