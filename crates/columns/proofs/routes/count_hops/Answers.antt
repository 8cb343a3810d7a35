use Rattle.std.proofs.Common.{length, ap, arith}
use Rattle.columns.specs.Columns.{route_links}
use Rattle.columns.proofs.ColumnsLaws.{hops_more}
use Rattle.columns.proofs.routes.count_hops.Goals as goal

pub loop-demand-init : goal.loop-demand-init
unfolding route_links
loop-demand-init c = (omega arith, omega arith)

pub loop-demand-preserved : goal.loop-demand-preserved
loop-demand-preserved c =
    let more = hops_more c.args.demands.now c.loop-demand.demand-index (omega arith) in
    (omega (arith, c.route.ensures.room), omega (arith, ap length c.route.ensures.route))
