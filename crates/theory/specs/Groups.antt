-- Whole groups: the listing cut into consecutive groups, the demands of a group order, and the best that first fit makes of all group
-- orders.
use Rattle.std.specs.Prelude.{ℕ, zero, suc, ◌+◌, ◌/◌, ◌%◌, Bool, true, ltb}
use Rattle.std.proofs.Math.Bool.{cond}
use mathlib.Core.List.{List, [], ◌∷◌, ◌++◌}
use Rattle.theory.specs.Problem.{Problem, top, Fitted, placed, refused, first_fit}
use Rattle.theory.specs.Orders.{count_up, listing, orders}
use Rattle.theory.specs.Walk.{Best, none_met, met}

-- how many of K demands group g of M has: the same for all, and one more for the first K mod M
unfoldable pub group_size : ℕ → ℕ → ℕ → ℕ
group_size K M g = K / M + cond (ltb g (K % M)) 1 0

-- where group g begins: behind all groups before it
unfoldable pub group_start : ℕ → ℕ → ℕ → ℕ
unfolding group_size
group_start K M zero = 0
group_start K M (suc g) = group_start K M g + group_size K M g

-- the listing positions of group g, by listing
unfoldable pub group : ℕ → ℕ → ℕ → List ℕ
unfolding count_up group_size group_start
group K M g = count_up (group_size K M g) (group_start K M g)

-- the demands of a group order: group by group, and inside each by listing
unfoldable pub members : ℕ → ℕ → List ℕ → List ℕ
unfolding group
members K M [] = []
members K M (g ∷ order) = group K M g ++ members K M order

module _ (P : Problem) where
  -- whether an end is lower than that of the best so far; where there is none, it is
  unfoldable pub lowers : ℕ → Best → Bool
  lowers e none_met = true
  lowers e (met rows order) = ltb e (top P rows)

  -- what first fit gives along a group order is the best from now on, where all are placed and end lower; of equal ends the first stays
  unfoldable pub better : List ℕ → Fitted → Best → Best
  unfolding lowers
  better order (placed rows) best = cond (lowers (top P rows) best) (met rows order) best
  better order (refused rows i) best = best

  -- first fit along one group order after the other, each end at most S
  unfoldable pub best_along : ℕ → ℕ → ℕ → List (List ℕ) → Best → Best
  unfolding better first_fit members
  best_along S K M [] best = best
  best_along S K M (order ∷ orders) best = best_along S K M orders (better order (first_fit P S [] (members K M order)) best)

  -- the best of all M! orders of the groups
  unfoldable pub grouped : ℕ → ℕ → ℕ → Best
  unfolding best_along orders listing
  grouped S K M = best_along S K M (orders (listing M)) none_met
