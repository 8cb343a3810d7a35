use Rattle.std.specs.Prelude.{suc}
use Rattle.std.proofs.Common.{◌≡◌, ◌+◌, length, arith, ap}
use Rattle.request.specs.View.{view_demand}
use Rattle.request.specs.Encoding.{two_bytes, field, demand_field}
use Rattle.request.proofs.EncodingLaws.{demand_bytes}
use Rattle.writing.specs.PutsLaws.{puts_then}
use Rattle.writing.proofs.File.put_demand.Goals as goal

pub put_header-requires : goal.put_header-requires
put_header-requires c = omega (arith, demand_bytes (view_demand c.args.demand))

pub put_number-requires : goal.put_number-requires
unfolding two_bytes
put_number-requires c = omega (arith, demand_bytes (view_demand c.args.demand))

pub put_number-requires-2 : goal.put_number-requires-2
unfolding two_bytes
put_number-requires-2 c = omega (arith, demand_bytes (view_demand c.args.demand))

pub put-requires : goal.put-requires
unfolding two_bytes
put-requires c = omega (arith, demand_bytes (view_demand c.args.demand), ap length c.route-route.ensures.route)

pub returns : goal.returns
unfolding view_demand demand_field field two_bytes
returns c =
    let route = c.route-route.result.now in
    let body : suc (suc (suc (suc (length route)))) ≡ 4 + length route = omega arith in
    rw (← c.route-route.ensures.route, body, ← c.tag_of.ensures, ← c.number_asked.ensures)
    (puts_then _ _ _ _ _ c.put_header.ensures (puts_then _ _ _ _ _ c.put_number.ensures (puts_then _ _ _ _ _ c.put_number-2.ensures c.put.ensures)))
