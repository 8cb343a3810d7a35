use Rattle.std.specs.Prelude.{◌≡◌, take}
use Rattle.request.specs.View.{view_demand}
use Rattle.request.specs.DemandTest.{demand_tests}
use Rattle.request.proofs.RouteLaws.{has_some}
use Rattle.request.proofs.tests.test_demand.Goals as goal

pub returns : goal.returns
unfolding view_demand demand_tests
returns c =
    let listed : c.listed.result.now ≡ take c.args.count c.args.links = c.listed.ensures in
    rw (
      c.contains.ensures.value,
      has_some c.args.demand.ident c.args.earlier.now,
      c.rate_known.ensures,
      c.width_allowed.ensures,
      c.width_of.ensures,
      c.allowed_hops.ensures,
      c.sound_route.ensures,
      c.route.ensures.route,
      listed,
    )
