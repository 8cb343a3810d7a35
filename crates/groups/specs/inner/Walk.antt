-- What the walk over group orders keeps, level by level.
use Rattle.std.specs.Prelude.{ℕ, suc, ◌+◌, ◌-◌, ◌≤◌, ◌<◌, true, false, ◌⊎◌, ◌≡◌, length, get_or, set, take}
use mathlib.Core.List.{List, [], ◌∷◌, ◌++◌}
use Rattle.theory.specs.Problem.{Problem, Row, fill, top}
use Rattle.theory.specs.Orders.{count_up, spread, orders_of}
use Rattle.theory.specs.Walk.{met}
use Rattle.theory.specs.Groups.{group_start}
use Rattle.theory.specs.inner.Tried.{Lead, try}
use Rattle.theory.specs.inner.Grouped.{reach, below, unmarked}
use Rattle.board.specs.inner.Standing.{Standing}
use Rattle.meeting.specs.inner.Small.{problem_in, Small}
use Rattle.groups.specs.declared.Grouped.{Grouped}
use Rattle.groups.specs.declared.walk.Cut.{Cut}
use Rattle.groups.specs.declared.walk.Level.{Level}
use Rattle.groups.specs.Reply.{order_told}
use Rattle.groups.specs.inner.Table.{MeetingTable, GroupStarts}

-- of the demands from one position up to another those below position i are placed beside rows that stood before; the ends of the rest, and
-- of other demands, are as they were
pub record GroupSoFar (P : Problem) (K : ℕ) (rows : List Row) (from to i : ℕ) (before now : Level) : Type 0 where
  pub starts_full : length now.starts ≡ 200
  pub ends_full : length now.ends ≡ 200
  pub standing : Standing P K (fill P rows (count_up (i - from) from)) now.starts now.ends
  pub top_is : now.top ≡ top P (fill P rows (count_up (i - from) from))
  pub clear : (j : ℕ) → i ≤ j → j < to → get_or now.ends j 0 ≡ 0
  pub others : (j : ℕ) → (j < from) ⊎ (to ≤ j) → get_or now.ends j 0 ≡ get_or before.ends j 0
  pub used_kept : now.used ≡ before.used
  pub order_kept : now.order ≡ before.order
  pub placed_kept : now.placed ≡ before.placed

-- the order of the groups that stand
abbrev pub path_of : Level → List ℕ
path_of level = take level.placed level.order

module _ (cut : Cut) where
  -- the problem that the walk goes through, and how many demands it has
  abbrev pub posed : Problem
  posed = problem_in cut.compact.now

  abbrev pub demands : ℕ
  demands = cut.compact.now.count

  -- the rows of the groups that stand
  abbrev pub rows_of : Level → List Row
  rows_of level = reach posed demands cut.m (path_of level)

  -- where the groups that stand end, with group g behind them
  unfoldable pub top_with : Level → ℕ → ℕ
  unfolding top
  top_with level g = top posed (reach posed demands cut.m (path_of level ++ (g ∷ [])))

-- the table is that of a small request, and its groups begin where `first` says; some of them stand, along the first entries of an order:
-- the arrays hold their demands, and no demand of a group that is not used
pub record Ready (cut : Cut) (level : Level) : Type 0 where
  pub small : Small cut.compact.now
  pub meets : MeetingTable cut.compact.now.words cut.table.now
  pub begins : GroupStarts (demands cut) cut.m cut.first
  pub few : cut.m ≤ 8
  pub many : cut.m ≤ demands cut
  pub used_full : length level.used ≡ 8
  pub order_full : length level.order ≡ 8
  pub starts_full : length level.starts ≡ 200
  pub ends_full : length level.ends ≡ 200
  pub behind : (k : ℕ) → level.placed ≤ k → get_or level.order k 0 ≡ 0
  pub standing : Standing (posed cut) (demands cut) (rows_of cut level) level.starts level.ends
  pub top_is : level.top ≡ top (posed cut) (rows_of cut level)
  pub clear : (h : ℕ) → h < cut.m → get_or level.used h false ≡ false →
      (j : ℕ) → group_start (demands cut) cut.m h ≤ j → j < group_start (demands cut) cut.m (suc h) → get_or level.ends j 0 ≡ 0

-- group g stands as well, and all its demands end below the mark
pub record GroupPlaced (cut : Cut) (level : Level) (g mark : ℕ) (after : Level) : Type 0 where
  pub ready : Ready cut after
  pub below_mark : after.top < mark
  pub used_is : after.used ≡ set level.used g true
  pub order_is : after.order ≡ set level.order level.placed g
  pub placed_is : after.placed ≡ level.placed + 1

-- the best so far holds a lead: its mark, and the order of its best
pub record Held (best : Grouped) (lead : Lead) : Type 0 where
  pub mark_is : best.end ≡ lead.mark
  pub order_is : (rows : List Row) (order : List ℕ) → lead.best ≡ met rows order → best.order ≡ order_told order

module _ (cut : Cut) (level : Level) (g : ℕ) where
  -- the orders of the groups that are left once one more stands
  abbrev pub orders_left : List ℕ → List (List ℕ)
  orders_left = orders_of (cut.m - (level.placed + 1))

  -- the lead after the orders below group g
  unfoldable pub tried_group : Lead → Lead
  unfolding try unmarked
  tried_group lead =
      try (posed cut) (reach (posed cut) (demands cut) cut.m) []
      (below (path_of level ++ (g ∷ [])) (orders_left (unmarked (set level.used g true) 0 cut.m))) lead

  -- the lead after the orders below group g and below those after it, of the groups that do not stand
  unfoldable pub tried_from : Lead → Lead
  unfolding try unmarked
  tried_from lead =
      try (posed cut) (reach (posed cut) (demands cut) cut.m) []
      (below (path_of level) (spread orders_left (unmarked level.used 0 g) (unmarked level.used g (cut.m - g)))) lead
