use Rattle.std.proofs.Common.{◌≡◌, ◌<◌, min, length-take, get_or-take, refl, sym, ◌∙◌, Err, rules, arith}
use Rattle.request.specs.View.{view, no_entry}
use Rattle.request.proofs.StepsLaws.{ground_refused, ground_passes, met_too_many, met_refused, met_on, met_all}
use Rattle.request.proofs.Arrays.{whole}
use Rattle.request.proofs.check.check_request.Goals as goal

pub returns-in_err-check_ground : goal.returns-in_err-check_ground
returns-in_err-check_ground c =
    let told : c.from_residual.result ≡ Err c.in_err-check_ground.field-0.0 = search rules in
    told ∙ sym (ground_refused c.args.request _ (sym c.check_ground.ensures ∙ c.in_err-check_ground.was))

pub loop-k-init : goal.loop-k-init
loop-k-init c = ground_passes c.args.request _ refl (sym c.check_ground.ensures ∙ c.in_ok-check_ground.was)

pub returns-in_err-check_demand : goal.returns-in_err-check_demand
unfolding view
returns-in_err-check_demand c =
    let q = c.args.request in
    let met = c.loop-k in
    let n : c.min-asked.result ≡ min q.demand_count 200 = search rules in
    let few : met.k < c.min-asked.result = omega (arith, n, length-take c.min-asked.result q.demands, c.loop-k-test.true) in
    let told : c.from_residual-in_err-check_demand.result ≡ Err c.in_err-check_demand.field-0.0 = search rules in
    told
    ∙ sym
    (met_refused q met.idents met.k met.invariant (whole q _ c.well_formed.0).all_demands _ (omega (arith, n)) (omega (arith, n))
    (rw (← get_or-take c.min-asked.result q.demands met.k no_entry few)
    (sym c.check_demand.ensures ∙ c.in_err-check_demand.was)))

pub loop-k-preserved : goal.loop-k-preserved
unfolding view
loop-k-preserved c =
    let q = c.args.request in
    let met = c.loop-k in
    let n : c.min-asked.result ≡ min q.demand_count 200 = search rules in
    let few : met.k < c.min-asked.result = omega (arith, n, length-take c.min-asked.result q.demands, c.loop-k-test.true) in
    let here = get_or-take c.min-asked.result q.demands met.k no_entry few in
    rw here
    (met_on q met.idents met.k met.invariant (whole q _ c.well_formed.0).all_demands (omega (arith, n)) (omega (arith, n))
    (rw (← here) (sym c.check_demand.ensures ∙ c.in_ok-check_demand.was)))

pub returns-then-request-gt-MOST_DEMANDS : goal.returns-then-request-gt-MOST_DEMANDS
returns-then-request-gt-MOST_DEMANDS c =
    let q = c.args.request in
    let met = c.loop-k in
    let n : c.min-asked.result ≡ min q.demand_count 200 = search rules in
    let all = (whole q _ c.well_formed.0).all_demands in
    let end : met.k ≡ 200 =
    omega (arith, n, all, length-take c.min-asked.result q.demands, met.invariant.within_array, c.loop-k-test.false) in
    sym (met_too_many q met.idents met.k met.invariant all end (omega arith))

pub returns : goal.returns
returns c =
    let q = c.args.request in
    let met = c.loop-k in
    let n : c.min-asked.result ≡ min q.demand_count 200 = search rules in
    let all = (whole q _ c.well_formed.0).all_demands in
    sym (met_all q met.idents met.k met.invariant all (omega (arith, n, all, length-take c.min-asked.result q.demands, c.loop-k-test.false)))
