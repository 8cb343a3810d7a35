-- The tests of a certificate, turn by turn: weights, pairs and threes.
use Prim.Native.Nat.{ℕ, suc, ◌+◌, ◌-◌, ◌≤◌, ◌<◌}
use Rattle.std.specs.Prelude.{Bool, true, false, ◌&&◌, ◌||◌, List, ◌≡◌, leb, length, get_or, drop, Ok, Err}
use Rattle.std.proofs.Math.Bool.{not}
use Rattle.std.proofs.Common.{sym, ◌∙◌, add-one, drop_of_length-le, drop-cons, le-leb, lt-ltb, le-ltb}
use Rattle.std.proofs.Math.Path.{ap}
use native.Mathlib.Omega.{arith}
use Rattle.std.proofs.lemmas.Bool.{lt-leb}
use Rattle.refusal.specs.declared.Refusal.TheVariants.{NoCertificate}
use Rattle.theory.specs.Problem.{Problem}
use Rattle.request.specs.Check.{must}
use Rattle.request.proofs.CheckLaws.{then_sound, then_refused}
use Rattle.certify.specs.Reply.{weight_of, check_weights, some_from, heavy_with, check_sets}
use Rattle.certify.specs.inner.Sets.{pair_heavy}

-- a test that holds passes, one that does not refuses
must_pass : (b : Bool) (k : ℕ) → b ≡ true → must b (NoCertificate k) ≡ Ok tt
unfolding must
must_pass b k e = rw e

must_fail : (b : Bool) (k : ℕ) → b ≡ false → must b (NoCertificate k) ≡ Err (NoCertificate k)
unfolding must
must_fail b k e = rw e

module _ (a : ℕ) (weights : List ℕ) (i : ℕ) (within : i < length weights) where
  -- a weight above a is refused
  pub weight_above : a < get_or weights i 0 → check_weights a i (drop i weights) ≡ Err (NoCertificate i)
  unfolding check_weights
  weight_above high =
      ap (check_weights a i) (drop-cons weights i 0 within)
      ∙ then_refused (must (leb (get_or weights i 0) a) (NoCertificate i)) (check_weights a (i + 1) (drop (suc i) weights)) (NoCertificate i)
      (must_fail (leb (get_or weights i 0) a) i (lt-leb (get_or weights i 0) a high))

  -- any other passes
  pub weight_passes : get_or weights i 0 ≤ a → check_weights a i (drop i weights) ≡ check_weights a (i + 1) (drop (i + 1) weights)
  unfolding check_weights
  weight_passes low =
      ap (check_weights a i) (drop-cons weights i 0 within)
      ∙ then_sound (must (leb (get_or weights i 0) a) (NoCertificate i)) (check_weights a (i + 1) (drop (suc i) weights))
      (must_pass (leb (get_or weights i 0) a) i (le-leb (get_or weights i 0) a low))
      ∙ ap (λ (n : ℕ). check_weights a (i + 1) (drop n weights)) (sym (add-one i))

-- behind the last weight all have passed
pub weights_end : (a : ℕ) (weights : List ℕ) (i : ℕ) → length weights ≤ i → check_weights a i (drop i weights) ≡ Ok tt
unfolding check_weights
weights_end a weights i past = ap (check_weights a i) (drop_of_length-le weights {i = i} past)

-- one of some numbers passes a test: none of no number, the first, or one of the others
pub some_none : (test : ℕ → Bool) (k n : ℕ) → n ≤ k → some_from test k (n - k) ≡ false
unfolding some_from
some_none test k n past = ap (some_from test k) (let e : n - k ≡ 0 = omega arith in e)

some_turn : (test : ℕ → Bool) (k n : ℕ) → k < n → some_from test k (n - k) ≡ (test k || some_from test (k + 1) (n - (k + 1)))
unfolding some_from
some_turn test k n inside = ap (some_from test k) (let e : n - k ≡ suc (n - (k + 1)) = omega arith in e)

pub some_here : (test : ℕ → Bool) (k n : ℕ) → k < n → test k ≡ true → some_from test k (n - k) ≡ true
some_here test k n inside e = some_turn test k n inside ∙ ap (λ (b : Bool). b || some_from test (k + 1) (n - (k + 1))) e

pub some_on : (test : ℕ → Bool) (k n : ℕ) → k < n → test k ≡ false → some_from test k (n - k) ≡ some_from test (k + 1) (n - (k + 1))
some_on test k n inside e = some_turn test k n inside ∙ ap (λ (b : Bool). b || some_from test (k + 1) (n - (k + 1))) e

module _ (P : Problem) (weights : List ℕ) (a K : ℕ) where
  -- a demand that weighs nothing is the first of none
  pub weighs_nothing : (i : ℕ) → get_or weights i 0 ≡ 0 → heavy_with P weights a K i ≡ false
  unfolding heavy_with weight_of pair_heavy
  weighs_nothing i none =
      ap (λ (b : Bool). b && some_from (pair_heavy P weights a K i) (i + 1) (K - (i + 1))) (le-ltb 0 (get_or weights i 0) (omega arith))

  -- of one that weighs something the pairs decide
  pub weighs_something : (i : ℕ) → (get_or weights i 0 ≡ 0 → ⊥) →
      heavy_with P weights a K i ≡ some_from (pair_heavy P weights a K i) (i + 1) (K - (i + 1))
  unfolding heavy_with weight_of pair_heavy
  weighs_something i some = ap (λ (b : Bool). b && some_from (pair_heavy P weights a K i) (i + 1) (K - (i + 1))) (lt-ltb 0 (get_or weights i 0) (omega (arith, some)))

  -- the sets that begin with a demand: too heavy, or the next
  pub set_heavy : (i : ℕ) → i < K → heavy_with P weights a K i ≡ true → check_sets P weights a K i (K - i) ≡ Err (NoCertificate i)
  unfolding check_sets
  set_heavy i inside e =
      ap (check_sets P weights a K i) (let z : K - i ≡ suc (K - (i + 1)) = omega arith in z)
      ∙ then_refused (must (not (heavy_with P weights a K i)) (NoCertificate i)) (check_sets P weights a K (i + 1) (K - (i + 1))) (NoCertificate i)
      (must_fail (not (heavy_with P weights a K i)) i (ap not e))

  pub set_passes : (i : ℕ) → i < K → heavy_with P weights a K i ≡ false →
      check_sets P weights a K i (K - i) ≡ check_sets P weights a K (i + 1) (K - (i + 1))
  unfolding check_sets
  set_passes i inside e =
      ap (check_sets P weights a K i) (let z : K - i ≡ suc (K - (i + 1)) = omega arith in z)
      ∙ then_sound (must (not (heavy_with P weights a K i)) (NoCertificate i)) (check_sets P weights a K (i + 1) (K - (i + 1)))
      (must_pass (not (heavy_with P weights a K i)) i (ap not e))

  pub sets_end : (i : ℕ) → K ≤ i → check_sets P weights a K i (K - i) ≡ Ok tt
  unfolding check_sets
  sets_end i past = ap (check_sets P weights a K i) (let z : K - i ≡ 0 = omega arith in z)
