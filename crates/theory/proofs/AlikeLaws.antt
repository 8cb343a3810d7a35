-- Only the starts of the demands to place matter: two plans that give those alike are alike.
use Prim.Native.Nat.{ℕ, ◌≤◌, max}
use Rattle.std.specs.Prelude.{true, ◌≡◌}
use mathlib.Core.List.{List, [], ◌∷◌, Memᴰ}
use Rattle.std.proofs.Math.Path.{refl, ap₂}
use Rattle.std.proofs.Common.{subst, ap}
use Rattle.theory.specs.Problem.{Problem, Row, end_of, fits, apart, Allowed, plan_end}

module _ (P : Problem) (f g : ℕ → ℕ) where
  -- two plans that start each demand alike end alike
  pub plan_end_alike : (rows : List Row) (todo : List ℕ) → ((i : ℕ) → Memᴰ i todo → f i ≡ g i) →
      plan_end P rows todo f ≡ plan_end P rows todo g
  unfolding plan_end
  plan_end_alike rows [] same = refl
  plan_end_alike rows (i ∷ todo) same =
      ap₂ max (ap (end_of P i) (same i (Memᴰ.head refl))) (plan_end_alike rows todo (λ j m. same j (Memᴰ.tail m)))

  -- of two plans that start each demand alike, one is allowed where the other is
  pub allowed_alike : (S : ℕ) (rows : List Row) (todo : List ℕ) → ((i : ℕ) → Memᴰ i todo → f i ≡ g i) →
      Allowed P S rows todo f → Allowed P S rows todo g
  allowed_alike S rows todo same plan =
      record {
        within = λ i m. subst (λ (s : ℕ). end_of P i s ≤ S) (same i m) (plan.within i m);
        clear_of_rows = λ i m. subst (λ (s : ℕ). fits P rows i s ≡ true) (same i m) (plan.clear_of_rows i m);
        clear_of_others = λ i j m n different.
            subst (λ (s : ℕ). apart P i s j (g j) ≡ true) (same i m)
            (subst (λ (t : ℕ). apart P i (f i) j t ≡ true) (same j n) (plan.clear_of_others i j m n different));
      }
