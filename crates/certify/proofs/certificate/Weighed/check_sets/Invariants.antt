use Rattle.std.proofs.Common.{◌≡◌, ◌-◌, length}
use Rattle.certify.specs.Reply.{check_sets}
use Rattle.certify.specs.inner.Sets.{sharing_in}
use Rattle.certify.proofs.certificate.Weighed.check_sets.Given as goal

abbrev pub invariant-loop-i : goal.invariant-loop-i
invariant-loop-i l =
    check_sets (sharing_in l.self.words.now) l.self.weights.now l.self.a (length l.self.weights.now) l.i (length l.self.weights.now - l.i)
    ≡ check_sets (sharing_in l.self.words.now) l.self.weights.now l.self.a (length l.self.weights.now) 0 (length l.self.weights.now)
