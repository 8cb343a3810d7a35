-- Is this the best there is? What a search's answer promises about a request, in the planner's words: plans are lists of starts by
-- listing position, an order lists each position once, and nothing of the walk is left but its counts.
use Rattle.std.specs.Prelude.{ℕ, ◌+◌, ◌≤◌, ◌<◌, Bool, true, false, ◌≢◌, ◌≡◌, length, take, drop, Ok}
use mathlib.Core.List.{List, [], ◌∷◌, ◌++◌, Memᴰ}
use Rattle.theory.specs.Arrange.{Arrange}
use Rattle.theory.specs.Earlier.{Lower}
use Rattle.theory.specs.Orders.{factorial, orders, listing}
use Rattle.theory.specs.Problem.{fill, top}
use Rattle.theory.specs.Search as theory
use Rattle.request.specs.View.{View}
use Rattle.request.specs.Sharing.{problem_of}
use Rattle.meeting.specs.Bound.{bound_of}
use Rattle.meeting.specs.Plan.{AllowedPlan, end_of_plan, start_at, starts_of}
use Rattle.placing.specs.FirstFit.{blockers_of, first_fit_reply, first_fit_starts, first_fit_blockers}
use Rattle.placing.specs.LowestFree.{EachBlocked}
use Rattle.search.specs.declared.Outcome.{Outcome}
use Rattle.search.specs.declared.Outcome.TheVariants.{Finished, NothingFits, Unfinished, UnfinishedEmpty}
use Rattle.search.specs.declared.Answer.{Answer}
use Rattle.search.specs.Reply.{Buffers}

-- an order of a request lists each listing position once
unfoldable pub OrderOf : View → List ℕ → Type 0
OrderOf v order = Arrange order (listing v.demand_count)

-- the end that first fit reaches in an order, with no upper limit
unfoldable pub end_in_order : View → List ℕ → ℕ
end_in_order v order = top (problem_of v) (fill (problem_of v) [] order)

-- the plan shown: it is allowed and ends at e inside the band; it is what first fit gives in the order shown, blockers included, and so
-- each demand is told who kept it from starting lower
pub record PlanShown (v : View) (e : ℕ) (shown : Buffers) : Type 0 where
  pub allowed : AllowedPlan v shown.starts
  pub ends : end_of_plan v shown.starts ≡ e
  pub in_band : e ≤ v.band.slots
  pub an_order : OrderOf v shown.order
  pub by_first_fit : shown.starts ≡ starts_of v.demand_count (fill (problem_of v) [] shown.order)
  pub its_blockers : shown.blockers ≡ blockers_of (problem_of v) v.demand_count (fill (problem_of v) [] shown.order)
  pub each_blocked : EachBlocked v (start_at shown.starts) (start_at shown.blockers) shown.order

-- the call of first fit in the order shown gives the plan shown, whatever buffers with room it is lent: its end, its starts and its
-- blockers
pub record FirstFitShows (v : View) (e : ℕ) (shown : Buffers) (starts blockers : List ℕ) : Type 0 where
  pub placed : first_fit_reply v shown.order (length starts ∷ length blockers ∷ []) ≡ Ok e
  pub same_starts : take v.demand_count (first_fit_starts v shown.order (length starts ∷ length blockers ∷ []) starts) ≡ shown.starts
  pub same_blockers : take v.demand_count (first_fit_blockers v shown.order (length starts ∷ length blockers ∷ []) blockers) ≡ shown.blockers

-- no allowed plan whatsoever, first-fit or otherwise, has a lower end
unfoldable pub NoneLower : View → ℕ → Type 0
NoneLower v e = (other : List ℕ) → AllowedPlan v other → e ≤ end_of_plan v other

-- how many orders come before this one, in listing order
pub record Rank (v : View) (order : List ℕ) (before : ℕ) : Type 0 where
  pub earlier : List (List ℕ)
  pub later : List (List ℕ)
  pub stands : orders (listing v.demand_count) ≡ earlier ++ (order ∷ later)
  pub counted : length earlier ≡ before

-- finished: this is the best there is. The order shown is the first in listing order that reaches the end. Where the end meets the
-- bound, the orders reached or ruled out are those up to the order shown; else they are all K!
pub record BestThereIs (v : View) (a : Answer) (e : ℕ) (plan : Buffers) : Type 0 where
  pub shown : PlanShown v e plan
  pub none_lower : NoneLower v e
  pub first : (other : List ℕ) → OrderOf v other → Lower other plan.order → e < end_in_order v other
  pub before : ℕ
  pub rank : Rank v plan.order before
  pub sum_at_bound : e ≡ bound_of v → a.reached + a.ruled ≡ before + 1
  pub sum_above_bound : e ≢ bound_of v → a.reached + a.ruled ≡ factorial v.demand_count

-- nothing fits: no allowed plan exists inside the band, and all K! orders were reached or ruled out
pub record NoPlanExists (v : View) (a : Answer) : Type 0 where
  pub none : (plan : List ℕ) → AllowedPlan v plan → ⊥
  pub sum : a.reached + a.ruled ≡ factorial v.demand_count

-- stopped: exactly the stated steps were used up, and the orders met are the first ones in listing order, not all of them
pub record StepsUsedUp (v : View) (limit : ℕ) (a : Answer) (orders_met : List (List ℕ)) : Type 0 where
  pub steps_used : a.steps ≡ limit
  pub orders_left : List (List ℕ)
  pub first_ones : orders (listing v.demand_count) ≡ orders_met ++ orders_left
  pub sum : a.reached + a.ruled ≡ length orders_met
  pub not_all : a.reached + a.ruled < factorial v.demand_count

-- unfinished with a plan: the best that the orders met give, and the first of its kind; its end lies above the bound and inside the band
pub record BestSoFar (v : View) (limit : ℕ) (a : Answer) (e : ℕ) (plan : Buffers) : Type 0 where
  pub orders_met : List (List ℕ)
  pub stopped : StepsUsedUp v limit a orders_met
  pub shown : PlanShown v e plan
  pub met_it : Memᴰ plan.order orders_met
  pub best_met : (other : List ℕ) → Memᴰ other orders_met → e ≤ end_in_order v other
  pub first : (other : List ℕ) → Memᴰ other orders_met → Lower other plan.order → e < end_in_order v other
  pub above_bound : bound_of v < e

-- unfinished without a plan: none of the orders met stays inside the band
pub record NoneSoFar (v : View) (limit : ℕ) (a : Answer) : Type 0 where
  pub orders_met : List (List ℕ)
  pub stopped : StepsUsedUp v limit a orders_met
  pub none_met : (other : List ℕ) → Memᴰ other orders_met → v.band.slots < end_in_order v other

-- what each outcome promises
unfoldable pub Promised : View → ℕ → Answer → Buffers → Outcome → Type 0
Promised v limit a plan (Finished e) = BestThereIs v a e plan
Promised v limit a plan NothingFits = NoPlanExists v a
Promised v limit a plan (Unfinished e) = BestSoFar v limit a e plan
Promised v limit a plan UnfinishedEmpty = NoneSoFar v limit a

-- the first K entries of each buffer
unfoldable pub fronts : ℕ → Buffers → Buffers
fronts K after = record { starts = take K after.starts; order = take K after.order; blockers = take K after.blockers }

-- with a plan the first K entries of a buffer are written, and those behind them stay; without one all of it stays
unfoldable pub RestKept : ℕ → Outcome → List ℕ → List ℕ → Type 0
RestKept K (Finished e) before after = drop K after ≡ drop K before
RestKept K NothingFits before after = after ≡ before
RestKept K (Unfinished e) before after = drop K after ≡ drop K before
RestKept K UnfinishedEmpty before after = after ≡ before

-- an outcome settles the question: finished, or nothing fits
unfoldable pub settles : Outcome → Bool
settles (Finished e) = true
settles NothingFits = true
settles (Unfinished e) = false
settles UnfinishedEmpty = false

-- the steps that the search of a request needs: those that it takes without a limit
unfoldable pub steps_needed : View → ℕ
steps_needed v = theory.steps_needed (problem_of v) v.band.slots (bound_of v) [] (listing v.demand_count)

-- the question is settled exactly when the limit is no lower than the steps needed, and then exactly these were taken
pub record SettlesExactly (needed limit : ℕ) (a : Answer) : Type 0 where
  pub settled_there : needed ≤ limit → settles a.outcome ≡ true
  pub only_there : settles a.outcome ≡ true → needed ≤ limit
  pub steps_are : settles a.outcome ≡ true → a.steps ≡ needed

-- an answer, and what the lent buffers hold afterwards: its promise holds of their first K entries, which are the plan's starts, its order
-- and its blockers; it settles the question unless the steps needed are more than the limit; the bound shown is the request's; no step
-- beyond the limit was taken; the rest of the buffers stays
pub record AnswerKept (v : View) (limit : ℕ) (a : Answer) (lent after : Buffers) : Type 0 where
  pub promised : Promised v limit a (fronts v.demand_count after) a.outcome
  pub settles_exactly : SettlesExactly (steps_needed v) limit a
  pub bound_shown : a.bound ≡ bound_of v
  pub steps_within : a.steps ≤ limit
  pub starts_kept : RestKept v.demand_count a.outcome lent.starts after.starts
  pub order_kept : RestKept v.demand_count a.outcome lent.order after.order
  pub blockers_kept : RestKept v.demand_count a.outcome lent.blockers after.blockers
