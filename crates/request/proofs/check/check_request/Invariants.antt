use Rattle.request.specs.inner.Met.{Met}
use Rattle.request.proofs.check.check_request.Given as goal

abbrev pub invariant-loop-k : goal.invariant-loop-k
invariant-loop-k l = Met l.fn.request l.idents l.k
