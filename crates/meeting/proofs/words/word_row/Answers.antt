use Rattle.std.proofs.Common.{◌≡◌, ℕ, Bool, false, length, get_or, rules, arith}
use Rattle.std.proofs.Math.ListN.{get_or-eq_default}
use Rattle.meeting.specs.FillingLaws.{filled_none, filled_more}
use Rattle.meeting.specs.Compact.{share_bit, word_row}
use Rattle.meeting.specs.CompactLaws.{filled_whole, nobody_behind, row_empty}
use Rattle.meeting.proofs.words.word_row.Goals as goal

pub returns-then-i-ge200 : goal.returns-then-i-ge200
returns-then-i-ge200 c =
    let full : ◌≡◌ {A = ℕ} (length c.args.words) 200 = search rules in
    row_empty c.args.words c.args.i (get_or-eq_default c.args.words 0 {n = c.args.i} (omega (arith, full)))

pub loop-j-init : goal.loop-j-init
loop-j-init c = filled_none Bool (λ (k : ℕ). share_bit (get_or c.args.words k 0) (get_or c.args.words c.args.i 0)) false 200

pub loop-j-preserved : goal.loop-j-preserved
loop-j-preserved c =
    let words = c.args.words in
    let turn = c.loop-j in
    filled_more Bool (λ (k : ℕ). share_bit (get_or words k 0) (get_or words c.args.i 0)) false 200 turn.j turn.row c.share_bit.result
    c.loop-j-test.true c.share_bit.ensures turn.invariant

pub returns : goal.returns
unfolding word_row
returns c =
    let words = c.args.words in
    let full : ◌≡◌ {A = ℕ} (length words) 200 = search rules in
    filled_whole Bool (λ (k : ℕ). share_bit (get_or words k 0) (get_or words c.args.i 0)) false 200 c.loop-j.j c.loop-j.row c.loop-j.invariant
    (λ k h l. nobody_behind words k (get_or words c.args.i 0) (omega (arith, full)))
