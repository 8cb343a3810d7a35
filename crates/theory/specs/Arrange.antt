-- What it is to be an order of a list: every element of the list, each as often as it stands there, in some sequence.
use Rattle.std.specs.Prelude.{ℕ, List, [], ◌∷◌, ◌++◌, ◌≡◌}

-- an order is an order of a list when its first element stands somewhere in the list, and the rest is an order of all the others
unfoldable pub Arrange : List ℕ → List ℕ → Type 0
Arrange [] todo = todo ≡ []
Arrange (i ∷ order) todo =
    (before : List ℕ) × (after : List ℕ) × (todo ≡ before ++ (i ∷ after)) × Arrange order (before ++ after)
