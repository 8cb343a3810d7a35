use Rattle.request.specs.inner.Route.{RouteCome}
use Rattle.request.proofs.route.sound_route.Given as goal

abbrev pub invariant-loop-p : goal.invariant-loop-p
invariant-loop-p l = RouteCome l.links l.route l.met l.node l.p
