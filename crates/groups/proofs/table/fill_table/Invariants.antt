use mathlib.Core.Bool.{Bool, false}
use mathlib.Core.List.{List}
use lib.ListN.{replicate}
use Rattle.meeting.specs.Compact.{word_row}
use Rattle.meeting.specs.inner.Filling.{FilledTo}
use Rattle.groups.proofs.table.fill_table.Given as goal

abbrev pub invariant-loop-i : goal.invariant-loop-i
invariant-loop-i l = FilledTo (List Bool) (word_row l.words) (replicate 200 false) 200 l.i l.table
