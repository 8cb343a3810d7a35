use Rattle.std.proofs.Common.{List, ◌-◌, length, drop, length-drop, length-take-le, map, refl, ap, ◌∙◌, arith, take_all}
use Rattle.std.proofs.lemmas.List.Edits.{sets}
use Rattle.request.specs.View.{view_demand}
use Rattle.request.specs.declared.Demand.{Demand}
use Rattle.columns.specs.Columns.{route_links}
use Rattle.columns.proofs.ColumnsLaws.{hops_more, hops_within, routes_stored, stored_over, part_over}
use Rattle.columns.proofs.routes.write_routes.Goals as goal

pub loop-demand-init : goal.loop-demand-init
unfolding route_links
loop-demand-init c = (omega arith, refl, refl)

pub write_route-requires : goal.write_route-requires
write_route-requires c =
    let k = c.loop-demand.demand-index in
    let more = hops_more c.args.demands.now k (omega arith) in
    let within = hops_within c.args.demands.now k (omega arith) in
    let long = ap length c.route-route.ensures.route in
    let left = length-drop c.loop-demand.at c.loop-demand.out in
    rw (length-take-le (length c.loop-demand.out - c.loop-demand.at) (drop c.loop-demand.at c.loop-demand.out) (omega arith)) (omega arith)

pub loop-demand-preserved : goal.loop-demand-preserved
loop-demand-preserved c =
    let k = c.loop-demand.demand-index in
    let demands = c.args.demands.now in
    let more = hops_more demands k (omega arith) in
    let within = hops_within demands k (omega arith) in
    let same = c.route-route.ensures.route in
    let long = ap length same in
    let stored = part_over c.loop-demand.out c.write_route.new.out c.route-route.result.now c.loop-demand.at (omega arith) c.write_route.ensures in (
      omega arith,
      omega arith,
      routes_stored demands k (omega arith) c.args.out.now c.loop-demand.out _ c.loop-demand.at c.loop-demand.invariant.1 c.loop-demand.invariant.2 (rw same at stored),
    )

pub returns : goal.returns
returns c =
    let demands = c.args.demands.now in
    c.loop-demand.invariant.2
    ∙ ap (λ (ds : List Demand). sets c.args.out.now 0 (route_links (map view_demand ds))) (take_all c.loop-demand.demand-index demands (omega arith))
    ∙ stored_over (route_links (map view_demand demands)) c.args.out.now c.requires
