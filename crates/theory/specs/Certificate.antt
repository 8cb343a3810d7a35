-- A certificate that no plan ends lower: a weight for each demand, and what demands of which no two share a link may weigh together.
use Rattle.std.specs.Prelude.{ℕ, ◌+◌, ◌-◌, ◌*◌, ◌/◌, ◌≤◌, ◌<◌, false, ◌≡◌}
use mathlib.Core.List.{List, [], ◌∷◌, Memᴰ}
use Rattle.theory.specs.Problem.{Problem}
use Rattle.theory.specs.Earlier.{Chained, Rising}

-- what demands weigh together
unfoldable pub weighs : (ℕ → ℕ) → List ℕ → ℕ
weighs weight [] = 0
weighs weight (i ∷ set) = weight i + weighs weight set

-- of some demands no two share a link
unfoldable pub Unshared : Problem → List ℕ → Type 0
unfolding Chained
Unshared P set = Chained (λ (i j : ℕ). P.joined i j ≡ false) set

-- a certificate for K demands: those of which no two share a link, listed by rising number, weigh at most a together
unfoldable pub Certificate : Problem → ℕ → (ℕ → ℕ) → ℕ → Type 0
unfolding Rising Unshared weighs
Certificate P K weight a =
    (set : List ℕ) → Rising set → ((i : ℕ) → Memᴰ i set → i < K) → Unshared P set → weighs weight set ≤ a

-- the widths of the demands, each with its guard, as often as the demand weighs
unfoldable pub weighed : Problem → ℕ → (ℕ → ℕ) → List ℕ → ℕ
weighed P G weight [] = 0
weighed P G weight (i ∷ todo) = weight i * (P.width i + G) + weighed P G weight todo

-- the end below which a certificate lets no plan end: the sum shared out over a, rounded up, without the last guard
unfoldable pub certified_end : ℕ → ℕ → ℕ → ℕ
certified_end G a sum = ((sum + (a - 1)) / a) - G
