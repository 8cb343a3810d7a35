use Rattle.std.proofs.Common.{◌≡◌, ◌≤◌, length, take, map}
use Rattle.std.proofs.lemmas.List.Edits.{sets}
use Rattle.request.specs.View.{view_demand}
use Rattle.columns.specs.Columns.{route_links}
use Rattle.columns.proofs.routes.write_routes.Given as goal

abbrev pub invariant-loop-demand : goal.invariant-loop-demand
invariant-loop-demand l =
    (l.at ≤ length l.initial.out)
    × (l.at ≡ length (route_links (map view_demand (take l.demand-index l.demands))))
    × (l.out ≡ sets l.initial.out 0 (route_links (map view_demand (take l.demand-index l.demands))))
