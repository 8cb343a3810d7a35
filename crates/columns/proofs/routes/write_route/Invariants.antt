use Rattle.std.proofs.Common.{◌≡◌, take}
use Rattle.lent.specs.Lent.{over}
use Rattle.columns.proofs.routes.write_route.Given as goal

abbrev pub invariant-loop-k : goal.invariant-loop-k
invariant-loop-k l = l.out ≡ over (take l.k l.route) l.initial.out
