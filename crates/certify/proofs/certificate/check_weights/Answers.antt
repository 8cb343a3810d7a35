use Rattle.std.proofs.Common.{sym, ◌∙◌}
use Rattle.certify.specs.SetsLaws.{weight_above, weight_passes, weights_end}
use Rattle.certify.proofs.certificate.check_weights.Goals as goal

pub returns-then-a-weight : goal.returns-then-a-weight
returns-then-a-weight c =
    sym (weight_above c.args.a c.args.weights.now c.loop-i.i c.loop-i-test.true c.if-a-weight.true) ∙ c.loop-i.invariant

pub loop-i-preserved : goal.loop-i-preserved
loop-i-preserved c =
    sym (weight_passes c.args.a c.args.weights.now c.loop-i.i c.loop-i-test.true c.if-a-weight.false) ∙ c.loop-i.invariant

pub returns : goal.returns
returns c = sym (weights_end c.args.a c.args.weights.now c.loop-i.i c.loop-i-test.false) ∙ c.loop-i.invariant
