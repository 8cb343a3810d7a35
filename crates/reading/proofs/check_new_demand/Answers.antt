use mathlib.Core.Path.{sym, ap, ◌∙◌}
use native.Mathlib.Omega.{arith}
use borrow.Author.Tests.{not-true, not-false}
use lib.ListN.{take}
use Rattle.request.specs.declared.DemandTests.{DemandTests}
use Rattle.request.specs.View.{view_demand}
use Rattle.request.specs.DemandTest.{demand_tests}
use Rattle.reading.specs.DemandsLaws.{demand_too_many, demand_used, demand_unknown, demand_wide, demand_astray, demand_sound}
use Rattle.reading.proofs.check_new_demand.Goals as goal

pub returns-then-earlier-ge-MOST_DEMANDS : goal.returns-then-earlier-ge-MOST_DEMANDS
unfolding view_demand demand_tests
returns-then-earlier-ge-MOST_DEMANDS c =
    let tests = c.test_demand-tests in
    demand_too_many c.args.slots (take c.args.link_count c.args.links) c.args.earlier.now c.args.at (view_demand c.args.demand) (omega arith)

pub returns-then-tests : goal.returns-then-tests
unfolding view_demand demand_tests
returns-then-tests c =
    let tests = c.test_demand-tests in
    let ident = ap (λ (t : DemandTests). t.used) (sym tests.ensures) ∙ c.if-tests.true in
    demand_used c.args.slots (take c.args.link_count c.args.links) c.args.earlier.now c.args.at (view_demand c.args.demand) (omega arith) ident

pub returns-then-not-tests : goal.returns-then-not-tests
unfolding view_demand demand_tests
returns-then-not-tests c =
    let tests = c.test_demand-tests in
    let fresh = ap (λ (t : DemandTests). t.used) (sym tests.ensures) ∙ c.if-tests.false in
    let rate = ap (λ (t : DemandTests). t.rate) (sym tests.ensures) ∙ not-true tests.result.rate c.if-not-tests.true in
    demand_unknown c.args.slots (take c.args.link_count c.args.links) c.args.earlier.now c.args.at (view_demand c.args.demand) (omega arith) fresh rate

pub returns-then-not-tests-2 : goal.returns-then-not-tests-2
unfolding view_demand demand_tests
returns-then-not-tests-2 c =
    let tests = c.test_demand-tests in
    let ident = ap (λ (t : DemandTests). t.used) (sym tests.ensures) ∙ c.if-tests.false in
    let rate = ap (λ (t : DemandTests). t.rate) (sym tests.ensures) ∙ not-false tests.result.rate c.if-not-tests.false in
    let width = ap (λ (t : DemandTests). t.width) (sym tests.ensures) ∙ not-true tests.result.width c.if-not-tests-2.true in
    demand_wide c.args.slots (take c.args.link_count c.args.links) c.args.earlier.now c.args.at (view_demand c.args.demand) (omega arith) ident rate width

pub returns-then-not-tests-3 : goal.returns-then-not-tests-3
unfolding view_demand demand_tests
returns-then-not-tests-3 c =
    let tests = c.test_demand-tests in
    let ident = ap (λ (t : DemandTests). t.used) (sym tests.ensures) ∙ c.if-tests.false in
    let rate = ap (λ (t : DemandTests). t.rate) (sym tests.ensures) ∙ not-false tests.result.rate c.if-not-tests.false in
    let width = ap (λ (t : DemandTests). t.width) (sym tests.ensures) ∙ not-false tests.result.width c.if-not-tests-2.false in
    let route = ap (λ (t : DemandTests). t.route) (sym tests.ensures) ∙ not-true tests.result.route c.if-not-tests-3.true in
    demand_astray c.args.slots (take c.args.link_count c.args.links) c.args.earlier.now c.args.at (view_demand c.args.demand) (omega arith) ident rate width route

pub returns : goal.returns
unfolding view_demand demand_tests
returns c =
    let tests = c.test_demand-tests in
    let ident = ap (λ (t : DemandTests). t.used) (sym tests.ensures) ∙ c.if-tests.false in
    let rate = ap (λ (t : DemandTests). t.rate) (sym tests.ensures) ∙ not-false tests.result.rate c.if-not-tests.false in
    let width = ap (λ (t : DemandTests). t.width) (sym tests.ensures) ∙ not-false tests.result.width c.if-not-tests-2.false in
    let route = ap (λ (t : DemandTests). t.route) (sym tests.ensures) ∙ not-false tests.result.route c.if-not-tests-3.false in
    demand_sound c.args.slots (take c.args.link_count c.args.links) c.args.earlier.now c.args.at (view_demand c.args.demand) (omega arith) ident rate width route
