use Rattle.std.proofs.Common.{take, map}
use Rattle.request.specs.View.{view_demand}
use Rattle.request.specs.Encoding.{demand_fields}
use Rattle.writing.specs.inner.Puts.{Puts}
use Rattle.writing.proofs.File.put_demands.Given as goal

abbrev pub invariant-loop-demand : goal.invariant-loop-demand
invariant-loop-demand l = Puts l.initial.self l.self (demand_fields (map view_demand (take l.demand-index l.demands)))
