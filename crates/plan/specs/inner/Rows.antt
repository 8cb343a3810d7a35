-- How the check goes about starts, by listing position: ends, clashes with the rows before a demand, and blocks that stand too close.
use Rattle.refusal.specs.declared.Refusal.{Refusal}
use Rattle.std.specs.Prelude.{ℕ, zero, suc, ◌+◌, ◌≤◌, ◌<◌, Bool, ◌&&◌, List, [], ◌∷◌, ltb, Result, Ok}
use Rattle.refusal.specs.declared.Refusal.TheVariants.{EndAbove}
use Rattle.grid.specs.Grid.{end_within}
use Rattle.theory.specs.Problem.{Problem, Row}
use Rattle.request.specs.Check.{then, must}
use Rattle.meeting.specs.Plan.{start_at}
use Rattle.plan.specs.CheckStarts.{check_clash}

-- the rows that starts give to the first demands, so many, the last in front
unfoldable pub rows_before : List ℕ → ℕ → List Row
unfolding start_at
rows_before starts zero = []
rows_before starts (suc k) = record { who = k; at = start_at starts k } ∷ rows_before starts k

-- of two blocks of a start and a width neither ends, the guard included, before the other starts
unfoldable pub too_close : ℕ → ℕ → ℕ → ℕ → ℕ → Bool
too_close G s w t u = ltb t (s + w + G) && ltb s (t + u + G)

-- 17 at the first of n demands from k on that ends above S
unfoldable pub ends_from : Problem → ℕ → List ℕ → ℕ → ℕ → Result Unit Refusal
unfolding then must start_at
ends_from P S starts k zero = Ok tt
ends_from P S starts k (suc n) = then (must (end_within S (start_at starts k) (P.width k)) (EndAbove k)) (ends_from P S starts (k + 1) n)

-- 18 at the first of n demands from k on that clashes with one before it
unfoldable pub clashes_from : Problem → List ℕ → ℕ → ℕ → Result Unit Refusal
unfolding then check_clash rows_before
clashes_from P starts k zero = Ok tt
clashes_from P starts k (suc n) = then (check_clash P starts (rows_before starts k) k) (clashes_from P starts (k + 1) n)

-- 17, then 18, of K demands
unfoldable pub places_from : Problem → ℕ → List ℕ → ℕ → Result Unit Refusal
unfolding then ends_from clashes_from
places_from P S starts K = then (ends_from P S starts 0 K) (clashes_from P starts 0 K)

-- each of K demands ends within S
pub record EndsWithin (P : Problem) (S : ℕ) (starts : List ℕ) (K : ℕ) : Type 0 where
  pub each : (k : ℕ) → k < K → start_at starts k + P.width k ≤ S
