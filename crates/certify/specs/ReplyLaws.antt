-- The ways that a certificate's test can go, and what is told then.
use Rattle.std.specs.Prelude.{ℕ, ◌≤◌, ◌<◌, Bool, false, ◌&&◌, List, ◌≡◌, eqb, length, Result, Ok, Err}
use Rattle.std.proofs.Math.Path.{sym, ap₂}
use Rattle.std.proofs.Common.{ap, ◌∙◌, arith}
use Rattle.std.proofs.Math.Dec.{leb}
use borrow.Author.Tests.{le-leb, lt-leb, leb-true, eqb-true, eq-eqb, ne_eqb}
use Rattle.refusal.specs.declared.Refusal.{Refusal}
use Rattle.refusal.specs.declared.Refusal.TheVariants.{NoCertificate}
use Rattle.theory.specs.Problem.{Problem}
use Rattle.theory.proofs.TestLaws.{and_first, and_second}
use Rattle.request.specs.Check.{then, must}
use Rattle.request.proofs.CheckLaws.{then_sound, then_refused, first_sound, next_sound, test_held}
use Rattle.certify.specs.declared.Certified.TheVariants.{Best, AtLeast}
use Rattle.certify.specs.Reply.{check_weights, check_sets, right_shape, end_told, told_after}
use Rattle.certify.specs.inner.Sets.{checked_in, low_in, told_in}

module _ (P : Problem) (K : ℕ) (weights : List ℕ) (a : ℕ) where
  -- all tests behind that of the shape
  abbrev others : Result Unit Refusal
  others = then (check_weights a 0 weights) (check_sets P weights a K 0 K)

  -- a wrong shape
  shape_refused : right_shape K weights a ≡ false → checked_in P K weights a ≡ Err (NoCertificate K)
  unfolding checked_in must
  shape_refused wrong = then_refused (must (right_shape K weights a) (NoCertificate K)) others (NoCertificate K) (rw wrong)

  pub length_refused : (length weights ≡ K → ⊥) → Err (NoCertificate K) ≡ checked_in P K weights a
  unfolding right_shape
  length_refused differs = sym (shape_refused (ap (λ (b : Bool). b && (leb 1 a && leb a 2)) (ne_eqb (length weights) K differs)))

  pub none_refused : length weights ≡ K → a ≡ 0 → Err (NoCertificate K) ≡ checked_in P K weights a
  unfolding right_shape
  none_refused long none =
      sym (shape_refused (ap₂ (λ (b c : Bool). b && (c && leb a 2)) (eq-eqb (length weights) K long) (lt-leb 1 a (omega arith))))

  pub many_refused : length weights ≡ K → 2 < a → Err (NoCertificate K) ≡ checked_in P K weights a
  unfolding right_shape
  many_refused long many =
      sym
      (shape_refused
      (ap (λ (b : Bool). b && (leb 1 a && leb a 2)) (eq-eqb (length weights) K long)
      ∙ ap₂ (λ (b c : Bool). b && c) (le-leb 1 a (omega arith)) (lt-leb a 2 many)))

  -- both of these in one
  pub kind_refused : length weights ≡ K → (leb 1 a && leb a 2) ≡ false → Err (NoCertificate K) ≡ checked_in P K weights a
  unfolding right_shape
  kind_refused long wrong = sym (shape_refused (ap₂ (λ (b c : Bool). b && c) (eq-eqb (length weights) K long) wrong))

  module _ (long : length weights ≡ K) (some : (a ≡ 0 → ⊥)) (few : a ≤ 2) where
    -- with the right shape the weights and the sets decide
    shape_passes : checked_in P K weights a ≡ others
    unfolding checked_in must right_shape
    shape_passes =
        then_sound (must (right_shape K weights a) (NoCertificate K)) others
        (ap (λ (b : Bool). must b (NoCertificate K))
        (ap (λ (b : Bool). b && (leb 1 a && leb a 2)) (eq-eqb (length weights) K long)
        ∙ ap₂ (λ (b c : Bool). b && c) (le-leb 1 a (omega (arith, some))) (le-leb a 2 few)))

    pub weights_refused : (why : Refusal) → check_weights a 0 weights ≡ Err why → Err why ≡ checked_in P K weights a
    weights_refused why fails = sym (shape_passes ∙ then_refused (check_weights a 0 weights) (check_sets P weights a K 0 K) why fails)

    pub sets_decide : check_weights a 0 weights ≡ Ok tt → check_sets P weights a K 0 K ≡ checked_in P K weights a
    sets_decide passes = sym (shape_passes ∙ then_sound (check_weights a 0 weights) (check_sets P weights a K 0 K) passes)

  -- a certificate that passed has the right shape
  pub passed_shape : checked_in P K weights a ≡ Ok tt → (length weights ≡ K) × (1 ≤ a) × (a ≤ 2)
  unfolding checked_in right_shape
  passed_shape passes =
      let shape = test_held (right_shape K weights a) (NoCertificate K) (first_sound (must (right_shape K weights a) (NoCertificate K)) others passes) in
      let rest = and_second (eqb (length weights) K) (leb 1 a && leb a 2) shape in (
        eqb-true (length weights) K (and_first (eqb (length weights) K) (leb 1 a && leb a 2) shape),
        leb-true 1 a (and_first (leb 1 a) (leb a 2) rest),
        leb-true a 2 (and_second (leb 1 a) (leb a 2) rest),
      )

  -- and its weights and sets have passed
  pub passed_rest : checked_in P K weights a ≡ Ok tt →
      (check_weights a 0 weights ≡ Ok tt) × (check_sets P weights a K 0 K ≡ Ok tt)
  unfolding checked_in
  passed_rest passes =
      let rest = next_sound (must (right_shape K weights a) (NoCertificate K)) others passes in
      (first_sound (check_weights a 0 weights) (check_sets P weights a K 0 K) rest, next_sound (check_weights a 0 weights) (check_sets P weights a K 0 K) rest)

  module _ (G end : ℕ) where
    -- what is told: a refusal, the best, or how low a plan can end
    pub told_refused : (why : Refusal) → checked_in P K weights a ≡ Err why → Err why ≡ told_in P G K weights a end
    unfolding told_in told_after
    told_refused why fails = rw fails

    pub told_best : checked_in P K weights a ≡ Ok tt → low_in P G K weights a ≡ end → Ok (Best end) ≡ told_in P G K weights a end
    unfolding told_in told_after end_told
    told_best passes same = rw (passes, eq-eqb (low_in P G K weights a) end same)

    pub told_above : checked_in P K weights a ≡ Ok tt → (low_in P G K weights a ≡ end → ⊥) →
        Ok (AtLeast (low_in P G K weights a) end) ≡ told_in P G K weights a end
    unfolding told_in told_after end_told
    told_above passes differs = rw (passes, ne_eqb (low_in P G K weights a) end differs)
