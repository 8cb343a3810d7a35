use Rattle.std.proofs.Common.{◌≡◌, drop}
use Rattle.certify.specs.Reply.{check_weights}
use Rattle.certify.proofs.certificate.check_weights.Given as goal

abbrev pub invariant-loop-i : goal.invariant-loop-i
invariant-loop-i l = check_weights l.a l.i (drop l.i l.weights) ≡ check_weights l.a 0 l.weights
