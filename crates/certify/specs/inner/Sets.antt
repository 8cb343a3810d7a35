-- The test of a certificate, and what it tells, of any problem; and pairs and threes as the loops go through them.
use Rattle.refusal.specs.declared.Refusal.{Refusal}
use Rattle.std.specs.Prelude.{ℕ, ◌+◌, ◌-◌, ◌*◌, ◌≤◌, Bool, ◌&&◌, ◌||◌, List, ◌≡◌, ltb, get_or, Result}
use Rattle.refusal.specs.declared.Refusal.TheVariants.{NoCertificate}
use Rattle.theory.specs.Problem.{Problem}
use Rattle.theory.specs.Orders.{count_up, listing}
use Rattle.theory.specs.Certificate.{weighed, certified_end}
use Rattle.request.specs.Check.{then, must}
use Rattle.meeting.specs.Compact.{share_bit}
use Rattle.certify.specs.declared.Certified.{Certified}
use Rattle.certify.specs.Reply.{weight_of, check_weights, check_sets, weighs_beside, heavy_three, right_shape, end_told, told_after}

-- who shares a link with whom, by the words of the routes: pairs and threes ask no more of a problem
unfoldable pub sharing_in : List ℕ → Problem
unfolding share_bit
sharing_in words = record { width = λ i. 0; joined = λ i j. share_bit (get_or words i 0) (get_or words j 0); gap = λ i j. 0 }

-- demands i and j weigh too much together, or with a third
unfoldable pub pair_heavy : Problem → List ℕ → ℕ → ℕ → ℕ → ℕ → Bool
unfolding weighs_beside weight_of heavy_three
pair_heavy P weights a K i j =
    weighs_beside P weights a K i j && (ltb a (weight_of weights i + weight_of weights j) || heavy_three P weights a K i j)

-- demand k weighs too much with the two
unfoldable pub third_heavy : Problem → List ℕ → ℕ → ℕ → ℕ → ℕ → ℕ → Bool
unfolding weighs_beside weight_of
third_heavy P weights a K i j k =
    weighs_beside P weights a K i k && (weighs_beside P weights a K j k && ltb a (weight_of weights i + weight_of weights j + weight_of weights k))

-- the test of a certificate for K demands
unfoldable pub checked_in : Problem → ℕ → List ℕ → ℕ → Result Unit Refusal
unfolding then must right_shape check_weights check_sets
checked_in P K weights a = then (must (right_shape K weights a) (NoCertificate K)) (then (check_weights a 0 weights) (check_sets P weights a K 0 K))

-- the end that it gives, with a guard of G
unfoldable pub low_in : Problem → ℕ → ℕ → List ℕ → ℕ → ℕ
unfolding certified_end weighed weight_of listing
low_in P G K weights a = certified_end G a (weighed P G (weight_of weights) (listing K))

-- what it tells of a plan that ends here
unfoldable pub told_in : Problem → ℕ → ℕ → List ℕ → ℕ → ℕ → Result Certified Refusal
unfolding told_after checked_in end_told low_in
told_in P G K weights a end = told_after (checked_in P K weights a) (end_told (low_in P G K weights a) end)

-- the first i demands are summed up
pub record SummedTo (P : Problem) (G K : ℕ) (weights : List ℕ) (sum i : ℕ) : Type 0 where
  pub rest : sum + weighed P G (weight_of weights) (count_up (K - i) i) ≡ weighed P G (weight_of weights) (listing K)
  pub small : sum ≤ 99960 * i
