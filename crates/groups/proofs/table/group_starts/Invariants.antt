use Prim.Native.Nat.{ℕ, ◌≤◌}
use mathlib.Core.Path.{◌≡◌}
use lib.ListN.{length, get_or}
use Rattle.theory.specs.Groups.{group_start}
use Rattle.groups.proofs.table.group_starts.Given as goal

abbrev pub invariant-loop-g : goal.invariant-loop-g
invariant-loop-g l = (length l.first ≡ 9) × ((k : ℕ) → k ≤ l.g → get_or l.first k 0 ≡ group_start l.count l.m k)
