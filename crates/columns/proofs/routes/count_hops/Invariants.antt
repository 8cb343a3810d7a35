use Rattle.std.proofs.Common.{◌≡◌, ◌≤◌, ◌*◌, length, take, map}
use Rattle.request.specs.View.{view_demand}
use Rattle.columns.specs.Columns.{route_links}
use Rattle.columns.proofs.routes.count_hops.Given as goal

abbrev pub invariant-loop-demand : goal.invariant-loop-demand
invariant-loop-demand l =
    (l.total ≤ 32 * l.demand-index) × (l.total ≡ length (route_links (map view_demand (take l.demand-index l.demands))))
