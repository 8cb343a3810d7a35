use Rattle.std.proofs.Common.{ℕ, arith}
use mathlib.Core.List.{[]}
use lib.ListN.{get_or}
use Rattle.search.specs.inner.Table.{table_row, meeting_table}
use Rattle.search.specs.TableLaws.{listed_all}
use Rattle.search.proofs.table.meeting_table.Goals as goal

pub returns : goal.returns
unfolding meeting_table
returns c =
    listed_all (λ (i : ℕ). table_row c.args.words (get_or c.args.words i 0)) c.loop-i.table 20 [] c.loop-i.invariant.0
    (λ k h. c.loop-i.invariant.1 k (omega arith))
