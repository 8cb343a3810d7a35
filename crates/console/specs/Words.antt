-- The words of the system for a failure, and the number behind them.
use Rattle.std.specs.Prelude.{ℕ, cond, List, [], ◌∷◌, eqb, codes}
use Rattle.std.specs.List.{starts_with}

-- a text up to the first place where another stands in it; all of it where that stands nowhere
unfoldable pub up_to : List ℕ → List ℕ → List ℕ
up_to mark [] = []
up_to mark (b ∷ text) = cond (starts_with eqb (b ∷ text) mark) [] (b ∷ up_to mark text)

-- what stands before the number, which begins " (os error "
unfoldable pub words_of : List ℕ → List ℕ
words_of text = up_to (codes " (os error ") text
