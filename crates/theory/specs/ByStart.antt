-- The order of a plan's demands by start, and what it is for first fit to do as well as a plan.
use Rattle.std.specs.Prelude.{ℕ, ◌<◌, List, ◌⊎◌, ◌≡◌}
use Rattle.theory.specs.Earlier.{StandsBefore, Chained}

-- along the order starts rise, and demands of equal start come as they stand in the list
unfoldable pub ByStart : (ℕ → ℕ) → List ℕ → List ℕ → Type 0
unfolding Chained StandsBefore
ByStart plan todo order =
    Chained (λ (i j : ℕ). (plan i < plan j) ⊎ ((plan i ≡ plan j) × StandsBefore i j todo)) order
