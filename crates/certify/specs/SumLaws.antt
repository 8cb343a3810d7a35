-- The sum of a certificate, demand by demand.
use Prim.Native.Nat.{ℕ, suc, ◌+◌, ◌-◌, ◌*◌, ◌≤◌, ◌<◌}
use Rattle.std.specs.Prelude.{List, ◌≡◌, get_or}
use Rattle.std.proofs.Math.Path.{ap, ap₂}
use native.Mathlib.Omega.{arith}
use Rattle.std.proofs.Common.{mul-le-mul_left, mul-le-mul_right, add-one}
use Rattle.theory.specs.Problem.{Problem}
use Rattle.theory.specs.Orders.{count_up, listing}
use Rattle.theory.specs.Certificate.{weighed}
use Rattle.certify.specs.Reply.{weight_of}
use Rattle.certify.specs.inner.Sets.{SummedTo}

-- a product of two small numbers
pub small_product : (w x : ℕ) → w ≤ 255 → x ≤ 392 → w * x ≤ 99960
small_product w x hw hx =
    let a : w * x ≤ w * 392 = mul-le-mul_left w hx in
    let b : w * 392 ≤ 255 * 392 = mul-le-mul_right 392 hw in
    omega arith

module _ (P : Problem) (G K : ℕ) (weights : List ℕ) where
  -- at the start nothing is summed up
  pub sum_none : SummedTo P G K weights 0 0
  unfolding listing
  sum_none =
      record {
        rest = omega (arith, ap (λ (n : ℕ). weighed P G (weight_of weights) (count_up n 0)) (let e : K - 0 ≡ K = omega arith in e));
        small = omega arith;
      }

  -- one demand more
  pub sum_more : (sum i w x : ℕ) → i < K → w ≡ get_or weights i 0 → x ≡ P.width i + G → w ≤ 255 → x ≤ 392 →
      SummedTo P G K weights sum i → SummedTo P G K weights (sum + w * x) (i + 1)
  unfolding weighed count_up weight_of
  sum_more sum i w x inside wi xi hw hx so_far =
      record {
        rest =
            omega (
              arith,
              so_far.rest,
              ap (λ (n : ℕ). weighed P G (weight_of weights) (count_up n i)) (let e : K - i ≡ suc (K - (i + 1)) = omega arith in e),
              ap (λ (n : ℕ). weighed P G (weight_of weights) (count_up (K - (i + 1)) n)) (add-one i),
              ap₂ (λ (a b : ℕ). a * b) wi xi,
            );
        small = omega (arith, so_far.small, small_product w x hw hx);
      }

  -- all are summed up
  pub sum_all : (sum i : ℕ) → K ≤ i → SummedTo P G K weights sum i → sum ≡ weighed P G (weight_of weights) (listing K)
  unfolding weighed count_up
  sum_all sum i past so_far =
      omega (arith, so_far.rest, ap (λ (n : ℕ). weighed P G (weight_of weights) (count_up n i)) (let e : K - i ≡ 0 = omega arith in e))
