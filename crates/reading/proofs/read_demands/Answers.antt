use borrow.Author.Rules.{rules}
use mathlib.Core.Path.{sym, subst, ◌∙◌}
use native.Mathlib.Omega.{arith}
use lib.ListN.{take, replicate}
use Rattle.reading.specs.inner.SoFar.{DemandsSoFar}
use Rattle.reading.specs.DemandsLaws.{used_room, demands_begin_lem, demands_finish, demands_fail, field_tagged, field_first, demand_here, demands_go_on, used_length}
use Rattle.request.specs.declared.Request.{Request}
use Rattle.request.specs.Packing.{empty_request}
use Rattle.reading.proofs.read_demands.Goals as goal

pub loop-at-init : goal.loop-at-init
unfolding empty_request
loop-at-init c =
    let links = take c.args.link_count c.args.links in
    let s = c.args.file.now in
    subst (λ (q : Request). DemandsSoFar c.args.slots links s c.args.start c.args.start 0 q.demands (replicate 200 0))
    (sym c.empty_request.ensures) (demands_begin_lem c.args.slots links s c.args.start c.requires)

pub returns-in_err-check_field : goal.returns-in_err-check_field
returns-in_err-check_field c =
    let turn = c.loop-at in
    let links = take c.args.link_count c.args.links in
    let s = c.args.file.now in
    let tag = c.demand_tag in
    let fault = demands_fail c.args.slots links s c.args.start turn.at turn.count turn.demands turn.idents turn.invariant (λ done. omega arith)
    (field_first c.args.slots links s turn.at (take turn.count turn.idents) (field_tagged s turn.at tag.result tag.ensures (sym c.in_err-check_field.was ∙ c.check_field.ensures))) in
    search (rules, fault)

pub demand_in-demand-requires : goal.demand_in-demand-requires
demand_in-demand-requires c =
    let turn = c.loop-at in
    let tag = c.demand_tag in
    sym (field_tagged c.args.file.now turn.at tag.result tag.ensures (sym c.in_ok-check_field.was ∙ c.check_field.ensures))

pub slice_bounds-idents-end : goal.slice_bounds-idents-end
slice_bounds-idents-end c =
    let turn = c.loop-at in
    let links = take c.args.link_count c.args.links in
    let s = c.args.file.now in
    used_room c.args.slots links s c.args.start turn.at turn.count turn.demands turn.idents turn.invariant

pub slice_bounds-check_new_demand-end : goal.slice_bounds-check_new_demand-end
slice_bounds-check_new_demand-end c =
    let turn = c.loop-at in
    let links = take c.args.link_count c.args.links in
    let s = c.args.file.now in
    sym (used_length c.args.slots links s c.args.start turn.at turn.count turn.demands turn.idents turn.invariant)

pub returns-in_err-check_new_demand : goal.returns-in_err-check_new_demand
returns-in_err-check_new_demand c =
    let turn = c.loop-at in
    let links = take c.args.link_count c.args.links in
    let s = c.args.file.now in
    let read = c.demand_in-demand in
    let tag = c.demand_tag in
    let field = field_tagged s turn.at tag.result tag.ensures (sym c.in_ok-check_field.was ∙ c.check_field.ensures) in
    let fault = demands_fail c.args.slots links s c.args.start turn.at turn.count turn.demands turn.idents turn.invariant (λ done. omega (arith, c.loop-at-test.true))
    (demand_here c.args.slots links s c.args.start turn.at turn.count turn.demands turn.idents turn.invariant read.result read.ensures field (sym c.in_err-check_new_demand.was ∙ c.check_new_demand.ensures)) in
    search (rules, fault)

pub offset_bounds-demands-count : goal.offset_bounds-demands-count
offset_bounds-demands-count c =
    let turn = c.loop-at in
    let next = demands_go_on _ _ _ _ _ _ _ _ turn.invariant c.demand_in-demand.result c.demand_in-demand.ensures c.demand_tag.result c.demand_tag.ensures c.loop-at-test.true
    (sym c.check_field.ensures ∙ c.in_ok-check_field.was) (sym c.check_new_demand.ensures ∙ c.in_ok-check_new_demand.was) in
    omega (arith, next.1.within)

pub bounds-demands-count : goal.bounds-demands-count
bounds-demands-count c =
    let turn = c.loop-at in
    let next = demands_go_on _ _ _ _ _ _ _ _ turn.invariant c.demand_in-demand.result c.demand_in-demand.ensures c.demand_tag.result c.demand_tag.ensures c.loop-at-test.true
    (sym c.check_field.ensures ∙ c.in_ok-check_field.was) (sym c.check_new_demand.ensures ∙ c.in_ok-check_new_demand.was) in
    omega (arith, next.1.within)

pub offset_bounds-idents-count : goal.offset_bounds-idents-count
offset_bounds-idents-count c =
    let turn = c.loop-at in
    let next = demands_go_on _ _ _ _ _ _ _ _ turn.invariant c.demand_in-demand.result c.demand_in-demand.ensures c.demand_tag.result c.demand_tag.ensures c.loop-at-test.true
    (sym c.check_field.ensures ∙ c.in_ok-check_field.was) (sym c.check_new_demand.ensures ∙ c.in_ok-check_new_demand.was) in
    omega (arith, next.1.within)

pub bounds-idents-count : goal.bounds-idents-count
bounds-idents-count c =
    let turn = c.loop-at in
    let next = demands_go_on _ _ _ _ _ _ _ _ turn.invariant c.demand_in-demand.result c.demand_in-demand.ensures c.demand_tag.result c.demand_tag.ensures c.loop-at-test.true
    (sym c.check_field.ensures ∙ c.in_ok-check_field.was) (sym c.check_new_demand.ensures ∙ c.in_ok-check_new_demand.was) in
    omega (arith, next.1.within)

pub overflow_add-count : goal.overflow_add-count
overflow_add-count c =
    let turn = c.loop-at in
    let next = demands_go_on _ _ _ _ _ _ _ _ turn.invariant c.demand_in-demand.result c.demand_in-demand.ensures c.demand_tag.result c.demand_tag.ensures c.loop-at-test.true
    (sym c.check_field.ensures ∙ c.in_ok-check_field.was) (sym c.check_new_demand.ensures ∙ c.in_ok-check_new_demand.was) in
    omega (arith, next.1.within)

pub overflow_add-at : goal.overflow_add-at
overflow_add-at c =
    let turn = c.loop-at in
    let next = demands_go_on _ _ _ _ _ _ _ _ turn.invariant c.demand_in-demand.result c.demand_in-demand.ensures c.demand_tag.result c.demand_tag.ensures c.loop-at-test.true
    (sym c.check_field.ensures ∙ c.in_ok-check_field.was) (sym c.check_new_demand.ensures ∙ c.in_ok-check_new_demand.was) in
    omega (arith, next.1.within)

pub overflow_add-at-in-loop-at : goal.overflow_add-at-in-loop-at
overflow_add-at-in-loop-at c =
    let turn = c.loop-at in
    let next = demands_go_on _ _ _ _ _ _ _ _ turn.invariant c.demand_in-demand.result c.demand_in-demand.ensures c.demand_tag.result c.demand_tag.ensures c.loop-at-test.true
    (sym c.check_field.ensures ∙ c.in_ok-check_field.was) (sym c.check_new_demand.ensures ∙ c.in_ok-check_new_demand.was) in
    omega (arith, next.1.within)

pub loop-at-smaller : goal.loop-at-smaller
loop-at-smaller c =
    let turn = c.loop-at in
    let next = demands_go_on _ _ _ _ _ _ _ _ turn.invariant c.demand_in-demand.result c.demand_in-demand.ensures c.demand_tag.result c.demand_tag.ensures c.loop-at-test.true
    (sym c.check_field.ensures ∙ c.in_ok-check_field.was) (sym c.check_new_demand.ensures ∙ c.in_ok-check_new_demand.was) in
    omega (arith, next.1.within)

pub loop-at-preserved : goal.loop-at-preserved
loop-at-preserved c =
    let turn = c.loop-at in
    let next = demands_go_on _ _ _ _ _ _ _ _ turn.invariant c.demand_in-demand.result c.demand_in-demand.ensures c.demand_tag.result c.demand_tag.ensures c.loop-at-test.true
    (sym c.check_field.ensures ∙ c.in_ok-check_field.was) (sym c.check_new_demand.ensures ∙ c.in_ok-check_new_demand.was) in
    next.1

pub returns : goal.returns
returns c =
    let turn = c.loop-at in
    let links = take c.args.link_count c.args.links in
    let s = c.args.file.now in
    demands_finish c.args.slots links s c.args.start turn.at turn.count turn.demands turn.idents turn.invariant (omega (arith, turn.invariant.within))
