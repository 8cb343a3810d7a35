use Rattle.std.proofs.Common.{◌≡◌, ◌≤◌, ◌+◌, ◌*◌, length, take, map}
use Rattle.request.specs.View.{view_demand}
use Rattle.request.specs.Encoding.{demand_fields}
use Rattle.writing.proofs.file_length.Given as goal

abbrev pub invariant-loop-demand : goal.invariant-loop-demand
invariant-loop-demand l =
    (l.bytes ≤ 328 + 39 * l.demand-index) × (l.bytes ≡ 8 + 5 * length l.links + length (demand_fields (map view_demand (take l.demand-index l.demands))))
