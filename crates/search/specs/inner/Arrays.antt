-- What the arrays of the search stand for: the problem, the rows placed and the path to them.
use Rattle.std.specs.Prelude.{ℕ, zero, suc, Bool, false, List, [], ◌∷◌, get_or}
use Rattle.theory.specs.Problem.{Problem, Row}

-- the problem of a table of who meets whom, a list of widths, and one guard between any two
unfoldable pub problem_of : List (List Bool) → List ℕ → ℕ → Problem
problem_of table widths guard =
    record {
      width = λ (i : ℕ). get_or widths i 0;
      joined = λ (i j : ℕ). get_or (get_or table i []) j false;
      gap = λ (i j : ℕ). guard;
    }

-- n entries of a list, from a place on
unfoldable pub entries : List ℕ → ℕ → ℕ → List ℕ
entries list from zero = []
entries list from (suc n) = get_or list from 0 ∷ entries list (suc from) n

-- the rows of the first n demands of an order, the last in front, each at its start
unfoldable pub rows_of : List ℕ → List ℕ → ℕ → List Row
rows_of starts order zero = []
rows_of starts order (suc n) =
    record { who = get_or order n 0; at = get_or starts (get_or order n 0) 0 } ∷ rows_of starts order n
