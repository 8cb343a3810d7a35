use Rattle.std.proofs.Common.{◌≡◌, ℕ, ◌<◌, length, get_or}
use mathlib.Core.List.{[]}
use Rattle.search.specs.inner.Table.{table_row}
use Rattle.search.proofs.table.meeting_table.Given as goal

abbrev pub invariant-loop-i : goal.invariant-loop-i
invariant-loop-i l = (length l.table ≡ 20) × ((k : ℕ) → k < l.i → get_or l.table k [] ≡ table_row l.words (get_or l.words k 0))
