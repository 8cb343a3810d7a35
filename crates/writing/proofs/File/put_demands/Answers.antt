use Rattle.std.proofs.Common.{arith}
use Rattle.request.specs.View.{no_entry}
use Rattle.request.specs.Encoding.{demand_fields}
use Rattle.writing.specs.WritingLaws.{demands_more, field_more, bytes_within}
use Rattle.writing.specs.PutsLaws.{puts_none, puts_then}
use Rattle.writing.proofs.File.put_demands.Goals as goal

pub loop-demand-init : goal.loop-demand-init
unfolding demand_fields
loop-demand-init c = puts_none _

pub put_demand-requires : goal.put_demand-requires
put_demand-requires c =
    let k = c.loop-demand.demand-index in
    omega (arith, field_more c.args.demands.now k no_entry (omega arith), bytes_within c.args.demands.now k no_entry (omega arith))

pub loop-demand-preserved : goal.loop-demand-preserved
loop-demand-preserved c =
    rw (demands_more c.args.demands.now c.loop-demand.demand-index no_entry (omega arith)) (puts_then _ _ _ _ _ c.loop-demand.invariant c.put_demand.ensures)
