-- Orders tried one after the other, none left out: the plain account that the walk is held to. What an order reaches is a function, so that
-- it may be an order of anything: of demands, or of groups of them.
use Rattle.std.specs.Prelude.{ℕ, ◌+◌, ◌≤◌, ◌<◌, max, cond, ◌≢◌, ◌≡◌, ltb, length}
use mathlib.Core.List.{List, [], ◌∷◌, ◌++◌, Memᴰ}
use Rattle.theory.specs.Problem.{Problem, Row, fill, top}
use Rattle.theory.specs.Walk.{Best, met, going, at_bound, out_of_steps, Tally}

-- the mark to beat, and the best plan so far
pub record Lead : Type 0 where
  pub mark : ℕ
  pub best : Best

-- the lead that a walk carries
unfoldable pub lead_of : Tally → Lead
lead_of t = record { mark = t.mark; best = t.best }

-- where an order ends, by the rows that it reaches
unfoldable pub ends_at : Problem → (List ℕ → List Row) → List ℕ → ℕ
unfolding top
ends_at P reach order = top P (reach order)

-- the lead that an order gives, after the path to it
unfoldable pub lead_by : Problem → (List ℕ → List Row) → List ℕ → List ℕ → Lead
unfolding ends_at
lead_by P reach path order = record { mark = ends_at P reach order; best = met (reach order) (path ++ order) }

-- one order after the other: each that ends below the mark takes the lead
unfoldable pub try : Problem → (List ℕ → List Row) → List ℕ → List (List ℕ) → Lead → Lead
unfolding ends_at lead_by
try P reach path [] lead = lead
try P reach path (order ∷ orders) lead =
    try P reach path orders (cond (ltb (ends_at P reach order) lead.mark) (lead_by P reach path order) lead)

-- an order of a list is the first of those that end lowest, and it ends below the mark
pub record FirstLowest (P : Problem) (reach : List ℕ → List Row) (mark : ℕ) (tried : List (List ℕ)) (order : List ℕ) : Type 0 where
  pub earlier : List (List ℕ)
  pub later : List (List ℕ)
  pub stands : tried ≡ earlier ++ (order ∷ later)
  pub below_mark : ends_at P reach order < mark
  pub earlier_higher : (o : List ℕ) → Memᴰ o earlier → ends_at P reach order < ends_at P reach o
  pub later_no_lower : (o : List ℕ) → Memᴰ o later → ends_at P reach order ≤ ends_at P reach o

-- what a list of orders makes of the lead: it stays, as none ends below the mark, or the first of the lowest has it
pub data Leads (P : Problem) (reach : List ℕ → List Row) (path : List ℕ) (tried : List (List ℕ)) (lead after : Lead) : Type 0 where
  unbeaten : ((o : List ℕ) → Memᴰ o tried → lead.mark ≤ ends_at P reach o) → after ≡ lead → Leads P reach path tried lead after
  taken : (o : List ℕ) → FirstLowest P reach lead.mark tried o → after ≡ lead_by P reach path o → Leads P reach path tried lead after

-- the walk ended with this order, the first that meets the bound
pub record EndsAtBound (P : Problem) (bound : ℕ) (rows : List Row) (path : List ℕ) (eaten : List (List ℕ)) (lead : Lead) : Type 0 where
  pub earlier : List (List ℕ)
  pub order : List ℕ
  pub stands : eaten ≡ earlier ++ (order ∷ [])
  pub meets : ends_at P (fill P rows) order ≡ bound
  pub beaten : bound < (try P (fill P rows) path earlier lead).mark

-- a walk from one tally to another over a list of orders: it took in a first part of them, counted each, and has the lead that they
-- give; it took in all unless it met the bound or ran out of steps, and the bound did not become the mark unless it was met
pub record Walked (P : Problem) (limit bound : ℕ) (rows : List Row) (path : List ℕ) (all : List (List ℕ)) (t u : Tally) : Type 0 where
  pub eaten : List (List ℕ)
  pub remaining : List (List ℕ)
  pub split : all ≡ eaten ++ remaining
  pub counted : u.reached + u.ruled ≡ t.reached + t.ruled + length eaten
  pub led : lead_of u ≡ try P (fill P rows) path eaten (lead_of t)
  pub steps_rise : t.steps ≤ u.steps
  pub steps_held : u.steps ≤ max limit t.steps
  pub when_going : u.course ≡ going → remaining ≡ []
  pub when_at_bound : u.course ≡ at_bound → EndsAtBound P bound rows path eaten (lead_of t)
  pub when_out : u.course ≡ out_of_steps → (remaining ≢ []) × (limit ≤ u.steps)
  pub bound_unmet : (u.course ≡ at_bound → ⊥) → t.mark ≢ bound → u.mark ≢ bound
