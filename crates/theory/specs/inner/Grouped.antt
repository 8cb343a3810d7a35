-- What the best group order is, and what a walk over group orders goes through.
use Rattle.std.specs.Prelude.{ℕ, zero, suc, ◌≤◌, ◌<◌, Bool, false, cond, List, [], ◌∷◌, ◌++◌, map, ◌≡◌, get_or}
use Rattle.theory.specs.Problem.{Problem, Row, fill, top}
use Rattle.theory.specs.Arrange.{Arrange}
use Rattle.theory.specs.Earlier.{Lower}
use Rattle.theory.specs.Orders.{listing}
use Rattle.theory.specs.Groups.{members, grouped}
use Rattle.theory.specs.Walk.{none_met, met}

-- the rows that a group order reaches, from nothing
abbrev pub reach : Problem → ℕ → ℕ → List ℕ → List Row
reach P K M order = fill P [] (members K M order)

-- a group order with its rows: they end within S, no group order ends lower, and those before it in listing order end higher
pub record BestGroups (P : Problem) (S K M : ℕ) (rows : List Row) (order : List ℕ) : Type 0 where
  pub listed : Arrange order (listing M)
  pub rows_are : rows ≡ reach P K M order
  pub within : top P rows ≤ S
  pub lowest : (other : List ℕ) → Arrange other (listing M) → top P rows ≤ top P (reach P K M other)
  pub first : (other : List ℕ) → Arrange other (listing M) → Lower other order → top P rows < top P (reach P K M other)

-- there is no best: each group order ends above S
abbrev pub NoneGrouped : Problem → ℕ → ℕ → ℕ → Type 0
NoneGrouped P S K M = (grouped P S K M ≡ none_met) × ((o : List ℕ) → Arrange o (listing M) → S < top P (reach P K M o))

-- or there is one, with what its order reaches
abbrev pub OneGrouped : Problem → ℕ → ℕ → ℕ → Type 0
OneGrouped P S K M = (o : List ℕ) × (grouped P S K M ≡ met (reach P K M o) o) × BestGroups P S K M (reach P K M o) o

-- orders that begin with a path
abbrev pub below : List ℕ → List (List ℕ) → List (List ℕ)
below path os = map (λ (o : List ℕ). path ++ o) os

-- of n numbers from k on, those that are not marked
unfoldable pub unmarked : List Bool → ℕ → ℕ → List ℕ
unmarked marks k zero = []
unmarked marks k (suc n) =
    let later : List ℕ = unmarked marks (suc k) n in
    cond (get_or marks k false) later (k ∷ later)
