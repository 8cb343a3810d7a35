-- What each test of a demand says, by itself.
use Rattle.std.specs.Prelude.{ℕ, List}
use Rattle.grid.specs.Grid.{allowed_width}
use Rattle.request.specs.declared.Link.{Link}
use Rattle.request.specs.declared.DemandTests.{DemandTests}
use Rattle.request.specs.View.{DemandView, width_of}
use Rattle.request.specs.Check.{has, known_asked, allowed_hops, sound_route}

-- the five tests of a demand in a band of S slots, over these links, after demands of these idents
unfoldable pub demand_tests : ℕ → List Link → List ℕ → DemandView → DemandTests
unfolding has known_asked allowed_hops sound_route
demand_tests S links earlier d =
    record {
      used = has d.ident earlier;
      rate = known_asked d.asked;
      width = allowed_width S (width_of d);
      hops = allowed_hops d.hops;
      route = sound_route links d.route;
    }
