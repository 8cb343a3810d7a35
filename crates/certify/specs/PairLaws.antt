-- A pair and its third: what decides.
use Rattle.std.specs.Prelude.{ℕ, ◌+◌, ◌≤◌, ◌<◌, Bool, true, false, not, ◌&&◌, ◌||◌, List, ◌≡◌, refl}
use Rattle.std.proofs.Math.Path.{ap, ap₂}
use Rattle.std.proofs.Common.{◌∙◌, arith, le-ltb, lt-ltb}
use Rattle.std.proofs.Math.Dec.{ltb}
use Rattle.std.proofs.Math.ListN.{get_or}
use Rattle.theory.specs.Problem.{Problem}
use Rattle.certify.specs.Reply.{weight_of, weighs_beside, heavy_three}
use Rattle.certify.specs.inner.Sets.{pair_heavy, third_heavy}

-- three tests in one
third_test : (p q w h : Bool) → (not (p || q) && (w && h)) ≡ ((not p && w) && ((not q && w) && h))
third_test true q w h = refl
third_test false true true h = refl
third_test false true false h = refl
third_test false false true h = refl
third_test false false false h = refl

module _ (P : Problem) (weights : List ℕ) (a K i j : ℕ) where
  -- a third shares no link with either of the two, weighs something, and with them too much
  pub third_is : (k pair : ℕ) → pair ≡ get_or weights i 0 + get_or weights j 0 →
      (not (P.joined i k || P.joined j k) && (ltb 0 (get_or weights k 0) && ltb a (pair + get_or weights k 0))) ≡ third_heavy P weights a K i j k
  unfolding third_heavy weighs_beside weight_of
  third_is k pair is =
      third_test (P.joined i k) (P.joined j k) (ltb 0 (get_or weights k 0)) (ltb a (pair + get_or weights k 0))
      ∙ ap (λ (n : ℕ). weighs_beside P weights a K i k && (weighs_beside P weights a K j k && ltb a (n + get_or weights k 0))) is

  -- a pair that shares a link is not heavy
  pub pair_shares : P.joined i j ≡ true → pair_heavy P weights a K i j ≡ false
  unfolding pair_heavy weighs_beside
  pair_shares e = rw e

  -- nor one whose second demand weighs nothing
  pub pair_weightless : P.joined i j ≡ false → get_or weights j 0 ≡ 0 → pair_heavy P weights a K i j ≡ false
  unfolding pair_heavy weighs_beside weight_of
  pair_weightless e none =
      ap₂ (λ (p w : Bool). (not p && w) && (ltb a (get_or weights i 0 + get_or weights j 0) || heavy_three P weights a K i j)) e
      (le-ltb 0 (get_or weights j 0) (omega arith))

  -- one that weighs more than a is
  pub pair_heavy_lem : P.joined i j ≡ false → (get_or weights j 0 ≡ 0 → ⊥) → a < get_or weights i 0 + get_or weights j 0 → pair_heavy P weights a K i j ≡ true
  unfolding pair_heavy weighs_beside weight_of
  pair_heavy_lem e some high =
      ap₂ (λ (p w : Bool). (not p && w) && (ltb a (get_or weights i 0 + get_or weights j 0) || heavy_three P weights a K i j)) e
      (lt-ltb 0 (get_or weights j 0) (omega (arith, some)))
      ∙ ap (λ (h : Bool). h || heavy_three P weights a K i j) (lt-ltb a (get_or weights i 0 + get_or weights j 0) high)

  -- else the thirds decide
  pub pair_light : P.joined i j ≡ false → (get_or weights j 0 ≡ 0 → ⊥) → get_or weights i 0 + get_or weights j 0 ≤ a →
      pair_heavy P weights a K i j ≡ heavy_three P weights a K i j
  unfolding pair_heavy weighs_beside weight_of
  pair_light e some low =
      ap₂ (λ (p w : Bool). (not p && w) && (ltb a (get_or weights i 0 + get_or weights j 0) || heavy_three P weights a K i j)) e
      (lt-ltb 0 (get_or weights j 0) (omega (arith, some)))
      ∙ ap (λ (h : Bool). h || heavy_three P weights a K i j) (le-ltb a (get_or weights i 0 + get_or weights j 0) low)
