-- Which numbers clash with a demand at a start, whatever the sequence of the rows.
use Rattle.std.specs.Prelude.{ℕ, ◌≤◌, false, ◌≡◌}
use mathlib.Core.List.{List, Memᴰ}
use Rattle.theory.specs.Problem.{Problem, Row, apart}
use Rattle.theory.specs.Blocker.{Blocker, nobody, blocked_by}

-- a row of number b clashes with demand i at s
pub record ClashAt (P : Problem) (rows : List Row) (i s b : ℕ) : Type 0 where
  pub row : Row
  pub stands : Memᴰ row rows
  pub number : row.who ≡ b
  pub clash : apart P row.who row.at i s ≡ false

-- the lowest number that clashes with demand i at s, or that none does
unfoldable pub Named : Problem → List Row → ℕ → ℕ → Blocker → Type 0
Named P rows i s nobody = (b : ℕ) → ClashAt P rows i s b → ⊥
Named P rows i s (blocked_by b) = ClashAt P rows i s b × ((c : ℕ) → ClashAt P rows i s c → b ≤ c)

-- demand i beside some rows and demand j beside others clash with the same numbers at each start
pub record SameClashes (P : Problem) (rows : List Row) (i : ℕ) (Q : Problem) (others : List Row) (j : ℕ) : Type 0 where
  pub over : (s b : ℕ) → ClashAt P rows i s b → ClashAt Q others j s b
  pub back : (s b : ℕ) → ClashAt Q others j s b → ClashAt P rows i s b
