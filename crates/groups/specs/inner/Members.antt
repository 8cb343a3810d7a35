-- A group order to be written out demand by demand.
use Rattle.std.specs.Prelude.{ℕ, ◌+◌, ◌≤◌, ◌<◌, List, ◌++◌, ◌≡◌, length, get_or, take, drop}
use Rattle.theory.specs.Groups.{members}
use Rattle.groups.specs.inner.Table.{GroupStarts}

-- a group order has the numbers of groups, and its demands are all demands
pub record Filled (K : ℕ) (order : List ℕ) : Type 0 where
  pub numbers : (k : ℕ) → k < length order → get_or order k 0 < length order
  pub whole : length (members K (length order) order) ≡ K

-- the demands of the first k groups stand in the first places of an array: with those still to be written they are all, in their order
pub record WrittenTo (K : ℕ) (order first along : List ℕ) (at k : ℕ) : Type 0 where
  pub filled : Filled K order
  pub starts : GroupStarts K (length order) first
  pub full : length along ≡ 200
  pub groups : k ≤ length order
  pub left : at + length (members K (length order) (drop k order)) ≡ K
  pub stand : take at along ++ members K (length order) (drop k order) ≡ members K (length order) order
