use Rattle.std.proofs.Common.{ℕ, arith}
use mathlib.Core.Bool.{false}
use lib.ListN.{get_or}
use Rattle.meeting.specs.Compact.{share_bit}
use Rattle.search.specs.inner.Table.{table_row}
use Rattle.search.specs.TableLaws.{listed_all}
use Rattle.search.proofs.table.table_row.Goals as goal

pub returns : goal.returns
unfolding table_row
returns c =
    let a = c.args in
    listed_all (λ (k : ℕ). share_bit a.word (get_or a.words.now k 0)) c.loop-j.row 20 false c.loop-j.invariant.0
    (λ k h. c.loop-j.invariant.1 k (omega arith))
