-- No allowed plan ends below the end that a certificate gives: in each slot, blocks widened by the guard, the demands that hold it share no
-- link, and so weigh at most a together.
use Prim.Native.Nat.{ℕ, zero, suc, ◌+◌, ◌-◌, ◌*◌, ◌/◌, ◌≤◌, ◌<◌, min}
use Rattle.std.specs.Prelude.{Bool, true, false, ◌&&◌, ◌≡◌, refl, leb, ltb}
use Rattle.std.proofs.Math.Bool.{cond}
use mathlib.Core.List.{List, [], ◌∷◌, Memᴰ}
use Rattle.std.proofs.Common.{◌∙◌, mul-suc, suc-mul, mul_comm, mul-le-mul_right, div-add-mod'}
use Rattle.std.proofs.Math.Logic.{⊎_elim}
use Rattle.std.proofs.Math.Path.{sym, ap, ap₂, subst, fun_ext}
use native.Mathlib.Omega.{arith}
use borrow.Author.Tests.{ltb-true, leb-true, lt-ltb, le-ltb, le-leb, lt-leb}
use Rattle.theory.specs.Problem.{Problem, end_of, apart, Allowed, plan_end}
use Rattle.theory.proofs.ProblemLaws.{end_is, plan_end_above}
use Rattle.theory.proofs.ApartLaws.{apart_cases}
use Rattle.theory.proofs.TestLaws.{by_test, and_both, and_first, and_second}
use Rattle.theory.specs.Earlier.{Chained, Rising}
use Rattle.theory.specs.Orders.{listing}
use Rattle.theory.proofs.ListingLaws.{listing_mem, listing_below, listing_rising}
use Rattle.theory.proofs.TriedLaws.{below_or_not}
use Rattle.theory.specs.Certificate.{weighs, Unshared, Certificate, weighed, certified_end}

-- a sum over the numbers below n
sum_to : (ℕ → ℕ) → ℕ → ℕ
sum_to f zero = 0
sum_to f (suc n) = sum_to f n + f n

-- the sum of a sum
sum_both : (f g : ℕ → ℕ) (n : ℕ) → sum_to (λ t. f t + g t) n ≡ sum_to f n + sum_to g n
unfolding sum_to
sum_both f g zero = refl
sum_both f g (suc n) = omega (arith, sum_both f g n)

-- a sum of nothing
sum_none : (n : ℕ) → sum_to (λ t. 0) n ≡ 0
unfolding sum_to
sum_none zero = refl
sum_none (suc n) = omega (arith, sum_none n)

-- n times at most a is at most n * a
sum_most : (f : ℕ → ℕ) (a n : ℕ) → ((t : ℕ) → f t ≤ a) → sum_to f n ≤ a * n
unfolding sum_to
sum_most f a zero h = omega arith
sum_most f a (suc n) h = omega (arith, sum_most f a n h, h n, mul-suc a n)

-- whether a slot lies in a block
inside : ℕ → ℕ → ℕ → Bool
inside s e t = leb s t && ltb t e

-- a slot of a block, one below it and one past it
in_block : (s e t : ℕ) → s ≤ t → t < e → inside s e t ≡ true
unfolding inside
in_block s e t low high = and_both (leb s t) (ltb t e) (le-leb s t low) (lt-ltb t e high)

below_block : (s e t : ℕ) → t < s → inside s e t ≡ false
unfolding inside
below_block s e t low = ap (λ (b : Bool). b && ltb t e) (lt-leb s t low)

past_block : (s e t : ℕ) → s ≤ t → e ≤ t → inside s e t ≡ false
unfolding inside
past_block s e t low high = ap₂ (λ (a b : Bool). a && b) (le-leb s t low) (le-ltb t e high)

-- a weight for each slot of a block, up to slot n
block_sum : (w s e n : ℕ) → sum_to (λ t. cond (inside s e t) w 0) n ≡ w * (min n e - s)
unfolding sum_to
block_sum w s e zero = sym (ap (λ (x : ℕ). w * x) (let z : min 0 e - s ≡ 0 = omega arith in z) ∙ omega arith)
block_sum w s e (suc n) =
    let so_far : ℕ = sum_to (λ t. cond (inside s e t) w 0) n in
    ⊎_elim
    (λ (low : n < s).
    ap (λ (b : Bool). so_far + cond b w 0) (below_block s e n low)
    ∙ omega (arith, block_sum w s e n, ap (λ (x : ℕ). w * x) (let z : min (suc n) e - s ≡ min n e - s = omega arith in z)))
    (λ (from : s ≤ n).
    ⊎_elim
    (λ (within : n < e).
    ap (λ (b : Bool). so_far + cond b w 0) (in_block s e n from within)
    ∙ omega (
      arith,
      block_sum w s e n,
      ap (λ (x : ℕ). w * x) (let z : min (suc n) e - s ≡ suc (min n e - s) = omega arith in z),
      mul-suc w (min n e - s),
    ))
    (λ (past : e ≤ n).
    ap (λ (b : Bool). so_far + cond b w 0) (past_block s e n from past)
    ∙ omega (arith, block_sum w s e n, ap (λ (x : ℕ). w * x) (let z : min (suc n) e - s ≡ min n e - s = omega arith in z)))
    (below_or_not n e))
    (below_or_not n s)

module _ (P : Problem) (G : ℕ) (weight plan : ℕ → ℕ) where
  -- demand i holds slot t, its block widened by the guard
  holds : ℕ → ℕ → Bool
  holds t i = inside (plan i) (end_of P i (plan i) + G) t

  -- the demands of a list that hold slot t
  holders : ℕ → List ℕ → List ℕ
  holders t [] = []
  holders t (i ∷ todo) = cond (holds t i) (i ∷ holders t todo) (holders t todo)

  -- a holder stands in the list, and holds the slot
  holder_mem : (t : ℕ) (todo : List ℕ) (i : ℕ) → Memᴰ i (holders t todo) → Memᴰ i todo × (holds t i ≡ true)
  unfolding holders
  holder_mem t [] i m = absurd (mathlib.Core.List.Memᴰ.not-nil m)
  holder_mem t (j ∷ todo) i m =
      by_test (holds t j)
      (λ yes.
      ⊎_elim
      (λ (e : i ≡ j). (mathlib.Core.List.Memᴰ.head e, ap (holds t) e ∙ yes))
      (λ (n : Memᴰ i (holders t todo)). let h = holder_mem t todo i n in (mathlib.Core.List.Memᴰ.tail h.0, h.1))
      (mathlib.Core.List.Memᴰ.cases_cons (subst (λ (b : Bool). Memᴰ i (cond b (j ∷ holders t todo) (holders t todo))) yes m)))
      (λ no.
      let h = holder_mem t todo i (subst (λ (b : Bool). Memᴰ i (cond b (j ∷ holders t todo) (holders t todo))) no m) in
      (mathlib.Core.List.Memᴰ.tail h.0, h.1))

  -- what the holders of slot t weigh
  held_at : List ℕ → ℕ → ℕ
  held_at todo t = weighs weight (holders t todo)

  held_cons : (i : ℕ) (todo : List ℕ) (t : ℕ) → held_at (i ∷ todo) t ≡ cond (holds t i) (weight i) 0 + held_at todo t
  unfolding held_at holders weighs
  held_cons i todo t =
      by_test (holds t i)
      (λ yes. ap (λ (b : Bool). weighs weight (cond b (i ∷ holders t todo) (holders t todo))) yes
      ∙ sym (ap (λ (b : Bool). cond b (weight i) 0 + held_at todo t) yes))
      (λ no. ap (λ (b : Bool). weighs weight (cond b (i ∷ holders t todo) (holders t todo))) no
      ∙ sym (ap (λ (b : Bool). cond b (weight i) 0 + held_at todo t) no ∙ omega arith))

  -- summed up over the slots it is what the demands weigh by their widths
  held_sum : (todo : List ℕ) (n : ℕ) → ((i : ℕ) → Memᴰ i todo → end_of P i (plan i) + G ≤ n) → sum_to (held_at todo) n ≡ weighed P G weight todo
  unfolding weighed held_at holders weighs holds inside
  held_sum [] n h = sum_none n
  held_sum (i ∷ todo) n h =
      let e : ℕ = end_of P i (plan i) + G in
      ap (λ (f : ℕ → ℕ). sum_to f n) (fun_ext (held_cons i todo))
      ∙ sum_both (λ t. cond (inside (plan i) e t) (weight i) 0) (held_at todo) n
      ∙ ap₂ (λ (x y : ℕ). x + y)
      (block_sum (weight i) (plan i) e n
      ∙ ap (λ (x : ℕ). weight i * x)
      (let z : min n e - plan i ≡ P.width i + G = omega (arith, h i (mathlib.Core.List.Memᴰ.head refl), end_is P i (plan i)) in z))
      (held_sum todo n (λ j m. h j (mathlib.Core.List.Memᴰ.tail m)))

  -- of rising demands those that hold a slot rise
  holders_rise : (t : ℕ) (todo : List ℕ) → Rising todo → Rising (holders t todo)
  unfolding holders Rising Chained
  holders_rise t [] c = tt
  holders_rise t (i ∷ todo) c =
      by_test (holds t i)
      (λ yes.
      subst (λ (b : Bool). Rising (cond b (i ∷ holders t todo) (holders t todo))) (sym yes)
      ((λ j m. c.0 j (holder_mem t todo j m).0), holders_rise t todo c.1))
      (λ no. subst (λ (b : Bool). Rising (cond b (i ∷ holders t todo) (holders t todo))) (sym no) (holders_rise t todo c.1))

  module _ (S : ℕ) (gaps : (i j : ℕ) → P.gap i j ≡ G) where
    -- of two demands of an allowed plan that hold the same slot no link is shared: else one would end, the guard included, before the other
    apart_unshared : (i j t : ℕ) → apart P i (plan i) j (plan j) ≡ true → holds t i ≡ true → holds t j ≡ true → P.joined i j ≡ false
    unfolding holds inside
    apart_unshared i j t a hi hj =
        by_test (P.joined i j)
        (λ shared.
        ⊎_elim
        (λ b. absurd (omega (arith, gaps i j, i_below, j_from)))
        (λ b. absurd (omega (arith, gaps j i, j_below, i_from)))
        (apart_cases P i (plan i) j (plan j) a shared))
        (λ unshared. unshared)
      where
        i_from : plan i ≤ t
        i_from = leb-true (plan i) t (and_first (leb (plan i) t) (ltb t (end_of P i (plan i) + G)) hi)

        i_below : t < end_of P i (plan i) + G
        i_below = ltb-true t (end_of P i (plan i) + G) (and_second (leb (plan i) t) (ltb t (end_of P i (plan i) + G)) hi)

        j_from : plan j ≤ t
        j_from = leb-true (plan j) t (and_first (leb (plan j) t) (ltb t (end_of P j (plan j) + G)) hj)

        j_below : t < end_of P j (plan j) + G
        j_below = ltb-true t (end_of P j (plan j) + G) (and_second (leb (plan j) t) (ltb t (end_of P j (plan j) + G)) hj)

    module _ (K : ℕ) (allowed : Allowed P S [] (listing K) plan) where
      -- so no two holders of a slot share a link
      holders_unshared : (t : ℕ) (todo : List ℕ) → Rising todo → ((i : ℕ) → Memᴰ i todo → i < K) → Unshared P (holders t todo)
      unfolding holders Rising Chained Unshared
      holders_unshared t [] c listed = tt
      holders_unshared t (i ∷ todo) c listed =
          by_test (holds t i)
          (λ yes.
          subst (λ (b : Bool). Unshared P (cond b (i ∷ holders t todo) (holders t todo))) (sym yes) (
            (λ j m.
                let h = holder_mem t todo j m in
                apart_unshared i j t
                (allowed.clear_of_others i j (listing_mem K i (listed i (mathlib.Core.List.Memᴰ.head refl))) (listing_mem K j (listed j (mathlib.Core.List.Memᴰ.tail h.0)))
                (λ e. omega (arith, c.0 j h.0))) yes h.1),
            holders_unshared t todo c.1 (λ j m. listed j (mathlib.Core.List.Memᴰ.tail m)),
          ))
          (λ no.
          subst (λ (b : Bool). Unshared P (cond b (i ∷ holders t todo) (holders t todo))) (sym no)
          (holders_unshared t todo c.1 (λ j m. listed j (mathlib.Core.List.Memᴰ.tail m))))

      -- and the sum is at most a for each slot up to the end, the guard included
      pub certificate_holds : (a : ℕ) → Certificate P K weight a → weighed P G weight (listing K) ≤ a * (plan_end P [] (listing K) plan + G)
      unfolding Certificate held_at
      certificate_holds a certificate =
          let n : ℕ = plan_end P [] (listing K) plan + G in
          let most : sum_to (held_at (listing K)) n ≤ a * n
          = sum_most (held_at (listing K)) a n
          (λ t.
          certificate (holders t (listing K)) (holders_rise t (listing K) (listing_rising K))
          (λ i m. listing_below K i (holder_mem t (listing K) i m).0)
          (holders_unshared t (listing K) (listing_rising K) (listing_below K))) in
          subst (λ (x : ℕ). x ≤ a * n)
          (held_sum (listing K) n (λ i m. omega (arith, plan_end_above P [] (listing K) plan i m))) most

-- shared out over a and rounded up, without the last guard, that is no more than the end
pub certified_below : (G a sum E : ℕ) → 0 < a → sum ≤ a * (E + G) → certified_end G a sum ≤ E
unfolding certified_end
certified_below G a sum E some h =
    let q : ℕ = (sum + (a - 1)) / a in
    let m : ℕ = E + G in
    ⊎_elim
    (λ (high : m < q).
    absurd
    (omega (
      arith,
      div-add-mod' (sum + (a - 1)) a,
      mul-le-mul_right a (let z : suc m ≤ q = omega arith in z),
      suc-mul m a,
      mul_comm a m,
    )))
    (λ (low : q ≤ m). omega arith)
    (below_or_not m q)

-- pairs and threes are enough where a is at most 2
module _ (P : Problem) (K : ℕ) (weight : ℕ → ℕ) (a : ℕ) (few : a ≤ 2)
    (one : (i : ℕ) → i < K → weight i ≤ a)
    (two : (i j : ℕ) → i < j → j < K → P.joined i j ≡ false → weight i + weight j ≤ a)
    (three : (i j k : ℕ) → i < j → j < k → k < K → P.joined i j ≡ false → P.joined i k ≡ false → P.joined j k ≡ false →
    weight i + weight j + weight k ≤ a) where
  -- two that weigh something, and others
  with_two : (i j : ℕ) → i < j → j < K → P.joined i j ≡ false → 1 ≤ weight i → 1 ≤ weight j → (set : List ℕ) →
      ((k : ℕ) → Memᴰ k set → (j < k) × (k < K) × (P.joined i k ≡ false) × (P.joined j k ≡ false)) → weight i + weight j + weighs weight set ≤ a
  unfolding weighs
  with_two i j h l u wi wj [] each = omega (arith, two i j h l u)
  with_two i j h l u wi wj (k ∷ set) each =
      ⊎_elim
      (λ (some : 0 < weight k).
      let at = each k (mathlib.Core.List.Memᴰ.head refl) in
      absurd (omega (arith, three i j k h at.0 at.1 u at.2 at.3)))
      (λ (none : weight k ≤ 0). omega (arith, with_two i j h l u wi wj set (λ x m. each x (mathlib.Core.List.Memᴰ.tail m))))
      (below_or_not 0 (weight k))

  -- one that weighs something, and others
  with_one : (i : ℕ) → i < K → 1 ≤ weight i → (set : List ℕ) → Rising set → Unshared P set →
      ((k : ℕ) → Memᴰ k set → (i < k) × (k < K) × (P.joined i k ≡ false)) → weight i + weighs weight set ≤ a
  unfolding weighs Rising Unshared Chained
  with_one i l wi [] c u each = omega (arith, one i l)
  with_one i l wi (j ∷ set) c u each =
      let at = each j (mathlib.Core.List.Memᴰ.head refl) in
      ⊎_elim
      (λ (some : 0 < weight j).
      omega (
        arith,
        with_two i j at.0 at.1 at.2 wi some set
            (λ k m. let other = each k (mathlib.Core.List.Memᴰ.tail m) in (c.0 k m, other.1, other.2, u.0 k m)),
      ))
      (λ (none : weight j ≤ 0). omega (arith, with_one i l wi set c.1 u.1 (λ k m. each k (mathlib.Core.List.Memᴰ.tail m))))
      (below_or_not 0 (weight j))

  pub threes_enough : Certificate P K weight a
  unfolding Certificate weighs Rising Unshared Chained
  threes_enough [] c listed u = omega arith
  threes_enough (i ∷ set) c listed u =
      ⊎_elim
      (λ (some : 0 < weight i).
      with_one i (listed i (mathlib.Core.List.Memᴰ.head refl)) some set c.1 u.1
      (λ k m. (c.0 k m, listed k (mathlib.Core.List.Memᴰ.tail m), u.0 k m)))
      (λ (none : weight i ≤ 0). omega (arith, threes_enough set c.1 (λ k m. listed k (mathlib.Core.List.Memᴰ.tail m)) u.1))
      (below_or_not 0 (weight i))
