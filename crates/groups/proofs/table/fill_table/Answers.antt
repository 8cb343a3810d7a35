use Prim.Native.Nat.{ℕ}
use mathlib.Core.Bool.{Bool, false}
use mathlib.Core.List.{List}
use mathlib.Core.Path.{◌≡◌, subst}
use native.Mathlib.Omega.{arith}
use borrow.Author.Rules.{rules}
use lib.ListN.{length, replicate}
use Rattle.meeting.specs.Compact.{word_row}
use Rattle.meeting.specs.inner.Filling.{FilledTo}
use Rattle.meeting.specs.FillingLaws.{filled_none, filled_more}
use Rattle.groups.specs.TableLaws.{table_whole}
use Rattle.groups.proofs.table.fill_table.Goals as goal

pub loop-i-init : goal.loop-i-init
loop-i-init c = rw c.requires.empty (filled_none (List Bool) (word_row c.args.words) (replicate 200 false) 200)

pub loop-i-preserved : goal.loop-i-preserved
loop-i-preserved c =
    let turn = c.loop-i in
    filled_more (List Bool) (word_row c.args.words) (replicate 200 false) 200 turn.i turn.table c.word_row.result
    (omega (arith, c.requires.count_bound)) c.word_row.ensures turn.invariant

pub returns : goal.returns
returns c =
    let words = c.args.words in
    let full : ◌≡◌ {A = ℕ} (length c.args.words) 200 = search rules in
    let turn = c.loop-i in
    let all : turn.i ≡ c.args.count = omega arith in
    table_whole words (omega (arith, full)) c.args.count turn.table c.requires.by_index
    (subst (λ (i : ℕ). FilledTo (List Bool) (word_row words) (replicate 200 false) 200 i turn.table) all turn.invariant)
