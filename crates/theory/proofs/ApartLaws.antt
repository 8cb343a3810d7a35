-- What it means for two placed demands to stand apart. No other file looks into the definition of apart.
use Rattle.std.specs.Prelude.{ℕ, ◌+◌, ◌≤◌, ◌<◌, Bool, true, false, not, ◌||◌, ◌⊎◌, ◌≡◌, refl, leb}
use Rattle.std.proofs.Math.Bool.{or-true}
use Rattle.std.proofs.lemmas.Bool.{false≢true}
use Rattle.std.proofs.Common.{inl, inr, ⊎_elim, arith, leb-true, leb-false, le-leb}
use Rattle.std.proofs.Math.Logic.{⊎_map}
use Rattle.theory.specs.Problem.{Problem, end_of, apart}
use Rattle.theory.proofs.TestLaws.{by_test, not_both, not_true_false, not_false_true}

-- the tests that apart is made of, over plain Booleans
either : Bool → Bool → Bool → Bool
either j a b = not j || (a || b)

-- which of the two last tests comes first makes no difference
either_swap : (j a b : Bool) → either j a b ≡ either j b a
unfolding either
either_swap true true true = refl
either_swap true true false = refl
either_swap true false true = refl
either_swap true false false = refl
either_swap false a b = refl

-- with the first test true one of the two last is true
either_cases : (j a b : Bool) → either j a b ≡ true → j ≡ true → (a ≡ true) ⊎ (b ≡ true)
unfolding either
either_cases true true b e t = inl refl
either_cases true false b e t = inr e
either_cases false a b e t = absurd (false≢true t)

-- joined both ways or neither, two demands are apart the one way exactly when they are the other way
pub apart_swap : (P : Problem) (i s j t : ℕ) → P.joined i j ≡ P.joined j i → apart P i s j t ≡ apart P j t i s
unfolding apart either
apart_swap P i s j t e =
    rw e (either_swap (P.joined j i) (leb (end_of P i s + P.gap i j) t) (leb (end_of P j t + P.gap j i) s))

-- of two joined demands that are apart one ends, the gap included, before the other starts
pub apart_cases : (P : Problem) (i s j t : ℕ) → apart P i s j t ≡ true → P.joined i j ≡ true →
    (end_of P i s + P.gap i j ≤ t) ⊎ (end_of P j t + P.gap j i ≤ s)
unfolding apart either
apart_cases P i s j t h e =
    ⊎_map (leb-true (end_of P i s + P.gap i j) t) (leb-true (end_of P j t + P.gap j i) s)
    (either_cases (P.joined i j) (leb (end_of P i s + P.gap i j) t) (leb (end_of P j t + P.gap j i) s) h e)

-- demands that share no link are apart
pub unjoined_apart : (P : Problem) (i s j t : ℕ) → P.joined i j ≡ false → apart P i s j t ≡ true
unfolding apart
unjoined_apart P i s j t e = rw e

-- the first ends, the gap included, before the second starts: apart
pub before_apart : (P : Problem) (i s j t : ℕ) → end_of P i s + P.gap i j ≤ t → apart P i s j t ≡ true
unfolding apart
before_apart P i s j t h = rw (le-leb (end_of P i s + P.gap i j) t h) (or-true (not (P.joined i j)))

-- the second ends, the gap included, before the first starts: apart
pub after_apart : (P : Problem) (i s j t : ℕ) → end_of P j t + P.gap j i ≤ s → apart P i s j t ≡ true
unfolding apart
after_apart P i s j t h = rw (le-leb (end_of P j t + P.gap j i) s h, or-true) (or-true (not (P.joined i j)))

-- From here on apart stays shut.

-- two demands that clash are joined, and neither ends, the gap included, before the other starts
pub clash_facts : (P : Problem) (i s j t : ℕ) → apart P i s j t ≡ false →
    (P.joined i j ≡ true) × (t < end_of P i s + P.gap i j) × (s < end_of P j t + P.gap j i)
clash_facts P i s j t c = (
  not_false_true (P.joined i j) (λ e. not_both (apart P i s j t) (unjoined_apart P i s j t e) c),
  by_test (leb (end_of P i s + P.gap i j) t)
      (λ l. not_both (apart P i s j t) (before_apart P i s j t (leb-true (end_of P i s + P.gap i j) t l)) c)
      (leb-false (end_of P i s + P.gap i j) t),
  by_test (leb (end_of P j t + P.gap j i) s)
      (λ l. not_both (apart P i s j t) (after_apart P i s j t (leb-true (end_of P j t + P.gap j i) s l)) c)
      (leb-false (end_of P j t + P.gap j i) s),
)

-- two joined demands clash where neither ends, the gap included, before the other starts
pub clash_from : (P : Problem) (i s j t : ℕ) → P.joined i j ≡ true → t < end_of P i s + P.gap i j → s < end_of P j t + P.gap j i →
    apart P i s j t ≡ false
clash_from P i s j t e h k =
    not_true_false (apart P i s j t) (λ a. ⊎_elim (λ b. omega arith) (λ b. omega arith) (apart_cases P i s j t a e))

-- a row that clashes at a start clashes at every higher one, until that passes the row's end and gap
pub clash_lasts : (P : Problem) (j t i s u : ℕ) → apart P j t i s ≡ false → s ≤ u → u < end_of P j t + P.gap j i →
    apart P j t i u ≡ false
unfolding end_of
clash_lasts P j t i s u h k l =
    let facts = clash_facts P j t i s h in
    clash_from P j t i u facts.0 l (omega arith)

-- a demand that starts no later than another, and may be moved down, stays apart from it
pub lowered_apart : (P : Problem) (i s t j u : ℕ) → apart P i t j u ≡ true → s ≤ t → t ≤ u → 1 ≤ P.width j → apart P i s j u ≡ true
unfolding end_of
lowered_apart P i s t j u h k l w =
    by_test (P.joined i j)
    (λ e. ⊎_elim
    (λ b. before_apart P i s j u (omega arith))
    (λ b. absurd (omega arith))
    (apart_cases P i t j u h e))
    (unjoined_apart P i s j u)
