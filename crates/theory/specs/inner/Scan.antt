-- The scan for the lowest start: it looks at one start, and on a clash goes on past all the rows that clash there.
use Prim.Native.Nat.{ℕ, zero, suc, ◌+◌, max}
use Rattle.std.proofs.Math.Bool.{cond}
use Rattle.std.specs.Prelude.{◌&&◌}
use mathlib.Core.List.{List, [], ◌∷◌}
use Rattle.std.proofs.Math.Dec.{ltb}
use Rattle.theory.specs.Problem.{Problem, Row, end_of, apart, fits}

module _ (P : Problem) where
  -- the largest, over the rows that clash with demand i at s, of end plus gap; s itself where none clashes
  unfoldable pub next_start : List Row → ℕ → ℕ → ℕ
  unfolding end_of apart
  next_start [] i s = s
  next_start (r ∷ rows) i s =
      let others : ℕ = next_start rows i s in
      cond (apart P r.who r.at i s) others (max (end_of P r.who r.at + P.gap r.who i) others)

  -- the scan from s, with so many looks allowed
  unfoldable pub scan : ℕ → List Row → ℕ → ℕ → ℕ
  unfolding fits next_start
  scan zero rows i s = s
  scan (suc looks) rows i s =
      let onward : ℕ = scan looks rows i (next_start rows i s) in
      cond (fits P rows i s) s onward

  -- how many rows share a link with demand i
  unfoldable pub joined_rows : List Row → ℕ → ℕ
  joined_rows [] i = 0
  joined_rows (r ∷ rows) i = cond (P.joined r.who i) (suc (joined_rows rows i)) (joined_rows rows i)

  -- how many rows share a link with demand i and end, the gap included, above s
  unfoldable pub rows_ahead : List Row → ℕ → ℕ → ℕ
  unfolding end_of
  rows_ahead [] i s = 0
  rows_ahead (r ∷ rows) i s =
      cond (P.joined r.who i && ltb s (end_of P r.who r.at + P.gap r.who i))
      (suc (rows_ahead rows i s))
      (rows_ahead rows i s)
