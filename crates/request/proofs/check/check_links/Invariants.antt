use Rattle.std.proofs.Common.{◌≡◌, drop}
use Rattle.request.specs.Check.{check_links}
use Rattle.request.proofs.check.check_links.Given as goal

abbrev pub invariant-loop-k : goal.invariant-loop-k
invariant-loop-k l = check_links 0 l.links ≡ check_links l.k (drop l.k l.links)
