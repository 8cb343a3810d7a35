-- What a plan and a certificate tell.
use Rattle.refusal.specs.declared.Refusal.{Refusal}
use Prim.Native.Nat.{ℕ, zero, suc, ◌+◌, ◌-◌}
use Rattle.std.specs.Prelude.{Bool, false, cond, ◌&&◌, ◌||◌, List, [], ◌∷◌, leb, eqb, length, get_or, Result, Ok, Err}
use Rattle.std.proofs.Math.Bool.{not}
use Rattle.std.proofs.Math.Dec.{ltb}
use Rattle.refusal.specs.declared.Refusal.TheVariants.{NoCertificate}
use Rattle.refusal.specs.Told.{Told, refusal_told}
use Rattle.theory.specs.Orders.{listing}
use Rattle.theory.specs.Problem.{Problem}
use Rattle.theory.specs.Certificate.{weighed, certified_end}
use Rattle.request.specs.View.{View}
use Rattle.request.specs.Check.{then, must}
use Rattle.request.specs.Sharing.{problem_of}
use Rattle.plan.specs.CheckStarts.{starts_reply}
use Rattle.certify.specs.declared.Certified.{Certified}
use Rattle.certify.specs.declared.Certified.TheVariants.{Best, AtLeast}

-- the weight of the demand at a listing position
unfoldable pub weight_of : List ℕ → ℕ → ℕ
weight_of weights i = get_or weights i 0

-- 30 at the first weight above a
unfoldable pub check_weights : ℕ → ℕ → List ℕ → Result Unit Refusal
unfolding then must
check_weights a k [] = Ok tt
check_weights a k (w ∷ weights) = then (must (leb w a) (NoCertificate k)) (check_weights a (k + 1) weights)

-- one of n numbers from k on passes a test
unfoldable pub some_from : (ℕ → Bool) → ℕ → ℕ → Bool
some_from test k zero = false
some_from test k (suc n) = test k || some_from test (k + 1) n

module _ (P : Problem) (weights : List ℕ) (a K : ℕ) where
  -- demand j weighs something, and shares no link with demand i
  unfoldable pub weighs_beside : ℕ → ℕ → Bool
  unfolding weight_of
  weighs_beside i j = not (P.joined i j) && ltb 0 (weight_of weights j)

  -- with demands i and j some later one is a third: of the three no two share a link, each weighs something, and together more than a
  unfoldable pub heavy_three : ℕ → ℕ → Bool
  unfolding weighs_beside some_from
  heavy_three i j =
      some_from
      (λ k. weighs_beside i k && (weighs_beside j k && ltb a (weight_of weights i + weight_of weights j + weight_of weights k)))
      (j + 1) (K - (j + 1))

  -- demand i is the first of a pair, or of three, that weigh more than a together, no two of them sharing a link
  unfoldable pub heavy_with : ℕ → Bool
  unfolding heavy_three
  heavy_with i =
      ltb 0 (weight_of weights i)
      && some_from (λ j. weighs_beside i j && (ltb a (weight_of weights i + weight_of weights j) || heavy_three i j)) (i + 1) (K - (i + 1))

  -- 30 at the first of n demands from i on that is the first of such a pair or three
  unfoldable pub check_sets : ℕ → ℕ → Result Unit Refusal
  unfolding then must heavy_with
  check_sets i zero = (Ok tt)
  check_sets i (suc n) = then (must (not (heavy_with i)) (NoCertificate i)) (check_sets (i + 1) n)

-- a certificate has a weight for each demand, and a is 1 or 2
unfoldable pub right_shape : ℕ → List ℕ → ℕ → Bool
right_shape K weights a = eqb (length weights) K && (leb 1 a && leb a 2)

-- 30: for its shape at K, then for a weight, then for a pair or three
unfoldable pub check_certificate : View → List ℕ → ℕ → Result Unit Refusal
unfolding then must right_shape check_weights check_sets
check_certificate v weights a =
    then (must (right_shape v.demand_count weights a) (NoCertificate v.demand_count))
    (then (check_weights a 0 weights) (check_sets (problem_of v) weights a v.demand_count 0 v.demand_count))

-- the widths, each with its guard, as often as its demand weighs
unfoldable pub sum_of : View → List ℕ → ℕ
unfolding weighed weight_of
sum_of v weights = weighed (problem_of v) v.band.guard (weight_of weights) (listing v.demand_count)

-- the end below which the certificate lets no plan end
unfoldable pub low_of : View → List ℕ → ℕ → ℕ
unfolding certified_end sum_of
low_of v weights a = certified_end v.band.guard a (sum_of v weights)

-- a plan that ends where the certificate does is the best; else the certificate says how low a plan can end at the most
unfoldable pub end_told : ℕ → ℕ → Certified
end_told low end = cond (eqb low end) (Best end) (AtLeast low end)

-- a check, and where it passes what is told
unfoldable pub told_after : Result Unit Refusal → Certified → Result Certified Refusal
told_after (Ok _) told = Ok told
told_after (Err why) told = Err why

-- what a certificate tells of an accepted plan that ends here
unfoldable pub certified_with : View → List ℕ → ℕ → ℕ → Result Certified Refusal
unfolding told_after check_certificate end_told low_of
certified_with v weights a end = told_after (check_certificate v weights a) (end_told (low_of v weights a) end)

-- the plan's check first
unfoldable pub after_plan : View → List ℕ → ℕ → Result ℕ Refusal → Result Certified Refusal
unfolding certified_with
after_plan v weights a (Ok end) = certified_with v weights a end
after_plan v weights a (Err why) = Err why

-- the whole reply
unfoldable pub certify_reply : View → List ℕ → List ℕ → ℕ → Result Certified Refusal
unfolding after_plan starts_reply
certify_reply v starts weights a = after_plan v weights a (starts_reply v starts)

-- what a reply says: 0, then 1 and the best end, or 2, the certificate's end and the plan's; or the number of the fault and its place
unfoldable pub certified_told : Result Certified Refusal → Told ℕ
certified_told (Ok (Best end)) = (0, 1 ∷ end ∷ end ∷ [])
certified_told (Ok (AtLeast low end)) = (0, 2 ∷ low ∷ end ∷ [])
certified_told (Err why) = refusal_told why
