use Rattle.std.proofs.Common.{◌≡◌, ℕ, ◌<◌, length, get_or}
use mathlib.Core.Bool.{false}
use Rattle.meeting.specs.Compact.{share_bit}
use Rattle.search.proofs.table.table_row.Given as goal

abbrev pub invariant-loop-j : goal.invariant-loop-j
invariant-loop-j l = (length l.row ≡ 20) × ((k : ℕ) → k < l.j → get_or l.row k false ≡ share_bit l.word (get_or l.words k 0))
