use Rattle.std.proofs.Common.{◌≡◌, ◌-◌, length}
use Rattle.certify.specs.Reply.{heavy_three, some_from}
use Rattle.certify.specs.inner.Sets.{sharing_in, third_heavy}
use Rattle.certify.proofs.certificate.Weighed.heavy_third.Given as goal

abbrev pub invariant-loop-k : goal.invariant-loop-k
invariant-loop-k l =
    some_from (third_heavy (sharing_in l.self.words.now) l.self.weights.now l.self.a (length l.self.weights.now) l.i l.j) l.k (length l.self.weights.now - l.k)
    ≡ heavy_three (sharing_in l.self.words.now) l.self.weights.now l.self.a (length l.self.weights.now) l.i l.j
