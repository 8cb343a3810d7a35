use Rattle.std.proofs.Common.{get_or, length, ap, arith}
use Rattle.request.specs.View.{view_demand, no_entry}
use Rattle.request.specs.Encoding.{demand_fields}
use Rattle.request.proofs.EncodingLaws.{demand_bytes}
use Rattle.writing.specs.WritingLaws.{field_more}
use Rattle.writing.proofs.file_length.Goals as goal

pub loop-demand-init : goal.loop-demand-init
unfolding demand_fields
loop-demand-init c = (omega arith, omega arith)

pub loop-demand-preserved : goal.loop-demand-preserved
loop-demand-preserved c =
    let k = c.loop-demand.demand-index in
    let more = field_more c.args.demands.now k no_entry (omega arith) in
    let bytes = demand_bytes (view_demand (get_or c.args.demands.now k no_entry)) in
    (omega (arith, c.route.ensures.room), omega (arith, ap length c.route.ensures.route))
