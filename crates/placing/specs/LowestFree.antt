-- What first fit promises, in the planner's words: each demand gets the lowest start that is free beside those before it, and is told
-- who was in the way of a lower one.
use Rattle.std.specs.Prelude.{ℕ, suc, ◌+◌, ◌-◌, ◌≤◌, ◌<◌, true, ◌≡◌, length, get_or}
use mathlib.Core.List.{List, ◌∷◌, ◌++◌, Memᴰ}
use Rattle.request.specs.View.{View, demand_at, width_of}
use Rattle.request.specs.Sharing.{share_link}
use Rattle.meeting.specs.Plan.{start_at, AllowedPlan, end_of_plan}

-- demand i at s and demand j at t clash: they share a link, and neither ends, the guard included, before the other starts
pub record Clashing (v : View) (i s j t : ℕ) : Type 0 where
  pub share : share_link (demand_at v.demands i).route (demand_at v.demands j).route ≡ true
  pub not_before : t < s + width_of (demand_at v.demands i) + v.band.guard
  pub not_after : s < t + width_of (demand_at v.demands j) + v.band.guard

-- demand i at s clashes with one of the demands placed before
pub record ClashesWith (v : View) (plan : ℕ → ℕ) (before : List ℕ) (i s : ℕ) : Type 0 where
  pub other : ℕ
  pub placed_before : Memᴰ other before
  pub clash : Clashing v i s other (plan other)

-- the plan's start for demand i is the lowest free one: it ends inside the band, it clashes with none of the demands placed before,
-- and any lower start clashes with one of them
pub record LowestFree (v : View) (plan : ℕ → ℕ) (before : List ℕ) (i : ℕ) : Type 0 where
  pub inside : plan i + width_of (demand_at v.demands i) ≤ v.band.slots
  pub free : ClashesWith v plan before i (plan i) → ⊥
  pub none_lower : (s : ℕ) → s < plan i → ClashesWith v plan before i s

-- each demand of an order gets its lowest free start beside those before it
unfoldable pub EachLowest : View → (ℕ → ℕ) → List ℕ → Type 0
EachLowest v plan order = (before : List ℕ) (i : ℕ) (after : List ℕ) → order ≡ before ++ (i ∷ after) → LowestFree v plan before i

-- demand b is in the way of demand i at s: it was placed before, the two clash, and none of lower listing position that was placed before
-- clashes there
pub record InTheWay (v : View) (plan : ℕ → ℕ) (before : List ℕ) (i s b : ℕ) : Type 0 where
  pub placed_before : Memᴰ b before
  pub clash : Clashing v i s b (plan b)
  pub lowest_listed : (other : ℕ) → Memᴰ other before → Clashing v i s other (plan other) → b ≤ other

-- the entry that names the blocker of demand i: at start 0 it says that there is none; else it is in the way at the start one lower, and
-- ends a guard below the start
pub record BlockerNamed (v : View) (plan : ℕ → ℕ) (before : List ℕ) (i entry : ℕ) : Type 0 where
  pub none_at_0 : plan i ≡ 0 → entry ≡ 65535
  pub in_the_way : (s : ℕ) → plan i ≡ suc s → InTheWay v plan before i s entry
  pub ends_below : 0 < plan i → plan entry + width_of (demand_at v.demands entry) + v.band.guard ≡ plan i

-- each demand of an order is told its blocker among those before it
unfoldable pub EachBlocked : View → (ℕ → ℕ) → (ℕ → ℕ) → List ℕ → Type 0
EachBlocked v plan blocker order =
    (before : List ℕ) (i : ℕ) (after : List ℕ) → order ≡ before ++ (i ∷ after) → BlockerNamed v plan before i (blocker i)

-- only the first K entries of a buffer were written
pub record FrontWritten (K : ℕ) (before after : List ℕ) : Type 0 where
  pub as_long : length after ≡ length before
  pub behind_kept : (k : ℕ) → K ≤ k → get_or after k 0 ≡ get_or before k 0

-- placed: each demand of the order has its lowest free start and its blocker, the plan is allowed and has this end, and only K entries of
-- each buffer were written
pub record PlanGiven (v : View) (order starts blockers given named : List ℕ) (end : ℕ) : Type 0 where
  pub each_lowest : EachLowest v (start_at given) order
  pub each_blocked : EachBlocked v (start_at given) (start_at named) order
  pub allowed : AllowedPlan v given
  pub ends : end ≡ end_of_plan v given
  pub in_band : end ≤ v.band.slots
  pub starts_written : FrontWritten v.demand_count starts given
  pub blockers_written : FrontWritten v.demand_count blockers named

-- refused at demand i: those before it have their lowest free starts, each start that ends inside the band clashes with one of them, and
-- the blocker is in the way at the last such start, S - w
pub record NoStartFree (v : View) (order : List ℕ) (i blocker : ℕ) : Type 0 where
  pub before : List ℕ
  pub after : List ℕ
  pub stands : order ≡ before ++ (i ∷ after)
  pub plan : ℕ → ℕ
  pub each_lowest : EachLowest v plan before
  pub none_free : (s : ℕ) → s + width_of (demand_at v.demands i) ≤ v.band.slots → ClashesWith v plan before i s
  pub in_the_way : InTheWay v plan before i (v.band.slots - width_of (demand_at v.demands i)) blocker
