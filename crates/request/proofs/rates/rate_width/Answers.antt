use Rattle.std.proofs.Common.{sym, refl, ◌∙◌, arith}
use Rattle.request.specs.View.{rate_table, rate_width}
use Rattle.request.proofs.RateLaws.{found_here, found_later, found_none}
use Rattle.request.proofs.rates.rate_width.Goals as goal

pub loop-row-init : goal.loop-row-init
unfolding rate_width
loop-row-init c = refl

pub returns-then-rate-row : goal.returns-then-rate-row
returns-then-rate-row c =
    let turn = c.loop-row in
    sym (turn.invariant ∙ found_here c.args.rate rate_table turn.row-index c.loop-row-test.true c.if-rate-row.true)

pub loop-row-preserved : goal.loop-row-preserved
loop-row-preserved c =
    let turn = c.loop-row in
    turn.invariant ∙ found_later c.args.rate rate_table turn.row-index c.loop-row-test.true c.if-rate-row.false

pub returns : goal.returns
returns c = sym (c.loop-row.invariant ∙ found_none c.args.rate c.loop-row.row-index (omega arith))
