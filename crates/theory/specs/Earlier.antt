-- Which of two orders comes first: at the first difference, the one whose element stands earlier in the list.
use Rattle.std.specs.Prelude.{ℕ, ◌<◌, ◌⊎◌, ◌≢◌, ◌≡◌}
use mathlib.Core.List.{List, [], ◌∷◌, Memᴰ}

-- i stands before j in a list
unfoldable pub StandsBefore : ℕ → ℕ → List ℕ → Type 0
StandsBefore i j [] = ⊥
StandsBefore i j (k ∷ todo) = ((i ≡ k) × Memᴰ j todo) ⊎ StandsBefore i j todo

-- at the first difference, the first order has the element that stands before the second's in the list
unfoldable pub Earlier : List ℕ → List ℕ → List ℕ → Type 0
unfolding StandsBefore
Earlier todo [] other = ⊥
Earlier todo (i ∷ order) [] = ⊥
Earlier todo (i ∷ order) (j ∷ other) = StandsBefore i j todo ⊎ ((i ≡ j) × Earlier todo order other)

-- at the first difference, the first order has the lower number
unfoldable pub Lower : List ℕ → List ℕ → Type 0
Lower [] other = ⊥
Lower (i ∷ order) [] = ⊥
Lower (i ∷ order) (j ∷ other) = (i < j) ⊎ ((i ≡ j) × Lower order other)

-- each element of a list stands in a relation to every later one
unfoldable pub Chained : {A : Type 0} → (A → A → Type 0) → List A → Type 0
Chained R [] = Unit {0}
Chained {A} R (x ∷ xs) = ((y : A) → Memᴰ y xs → R x y) × Chained R xs

-- no number stands twice in a list
unfoldable pub NoRepeats : List ℕ → Type 0
unfolding Chained
NoRepeats todo = Chained (λ (i j : ℕ). i ≢ j) todo

-- the numbers of a list rise
unfoldable pub Rising : List ℕ → Type 0
unfolding Chained
Rising todo = Chained (λ (i j : ℕ). i < j) todo
