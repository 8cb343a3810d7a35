-- Who was in the way of a demand: read off the rows that stood when it was placed.
use Prim.Native.Nat.{ℕ, zero, suc}
use Rattle.std.proofs.Math.Bool.{cond}
use mathlib.Core.List.{List, [], ◌∷◌}
use Rattle.std.specs.Prelude.{leb, eqb}
use Rattle.theory.specs.Problem.{Problem, Row, apart}

-- a demand by its number, or nobody
pub data Blocker : Type 0 where
  nobody : Blocker
  blocked_by : ℕ → Blocker

-- a number and a blocker: the lower of the two
unfoldable pub lower_of : ℕ → Blocker → Blocker
lower_of j nobody = blocked_by j
lower_of j (blocked_by k) = blocked_by (cond (leb j k) j k)

module _ (P : Problem) where
  -- of the rows that clash with demand i at s, the one of the lowest number
  unfoldable pub blocker_at : List Row → ℕ → ℕ → Blocker
  unfolding apart lower_of
  blocker_at [] i s = nobody
  blocker_at (r ∷ rows) i s =
      let others : Blocker = blocker_at rows i s in
      cond (apart P r.who r.at i s) others (lower_of r.who others)

  -- who keeps demand i from starting lower than s: whoever clashes at the start one lower, and nobody at 0
  unfoldable pub blocker_below : List Row → ℕ → ℕ → Blocker
  unfolding blocker_at
  blocker_below rows i zero = nobody
  blocker_below rows i (suc s) = blocker_at rows i s

  -- the blocker that rows give demand i, the last placed in front: of its start, among the rows placed before it; nobody where they do
  -- not hold it
  unfoldable pub blocker_in : List Row → ℕ → Blocker
  unfolding blocker_below
  blocker_in [] i = nobody
  blocker_in (r ∷ rows) i = cond (eqb r.who i) (blocker_below rows i r.at) (blocker_in rows i)
