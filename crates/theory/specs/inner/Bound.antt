-- What demands that all share links with each other need, put side by side.
use Rattle.std.specs.Prelude.{ℕ, ◌+◌, true, ◌≢◌, ◌≡◌}
use mathlib.Core.List.{List, [], ◌∷◌, Memᴰ}
use Rattle.theory.specs.Problem.{Problem}

module _ (P : Problem) where
  -- the widths of the demands of an order, and the gap between each two neighbours
  unfoldable pub packed : List ℕ → ℕ
  packed [] = 0
  packed (i ∷ []) = P.width i
  packed (i ∷ j ∷ order) = P.width i + P.gap i j + packed (j ∷ order)

  -- the sum of the widths of a list of demands
  unfoldable pub widths : List ℕ → ℕ
  widths [] = 0
  widths (i ∷ list) = P.width i + widths list

  -- each two different demands of a group share a link
  unfoldable pub AllMeet : List ℕ → Type 0
  AllMeet group = (i j : ℕ) → Memᴰ i group → Memᴰ j group → i ≢ j → P.joined i j ≡ true
