use Rattle.std.proofs.Common.{ℕ, List, take, sym, ap, ◌∙◌, rules}
use Rattle.std.specs.Prelude.{Ok}
use Rattle.request.specs.View.{DemandView, view, view_demand, width_of, idents}
use Rattle.request.proofs.Arrays.{whole}
use Rattle.writing.specs.OutLaws.{ready}
use Rattle.lent.specs.Lent.{check_rooms, over}
use Rattle.columns.specs.Columns.{DemandBuffers, lent_demands, demand_rooms, demands_over, widths, rate_asked, rates}
use Rattle.columns.proofs.ColumnsLaws.{column_seen, demands_unsound, demands_fit, demands_held, demands_refused_lem, demands_written}
use Rattle.columns.proofs.demands.demand_columns.Goals as goal

pub returns-in_err-check_request : goal.returns-in_err-check_request
returns-in_err-check_request c =
    let lent = lent_demands c.args.idents.now c.args.widths.now c.args.rates.now in
    let v = view c.args.request in
    let told = demands_refused_lem v lent _ (demands_unsound v (demand_rooms lent) _ (sym c.check_request.ensures ∙ c.in_err-check_request.was)) in
    record { answer = search (rules, told.0); idents = ap (λ (b : DemandBuffers). b.idents) told.1; widths = ap (λ (b : DemandBuffers). b.widths) told.1; rates = ap (λ (b : DemandBuffers). b.rates) told.1 }

pub shared_ref_as_front-demands : goal.shared_ref_as_front-demands
shared_ref_as_front-demands c =
    let is_ready = ready c.args.request (whole c.args.request _ c.well_formed.0) (sym c.check_request.ensures ∙ c.in_ok-check_request.was) in
    is_ready.few_demands

pub returns-in_err-check_rooms : goal.returns-in_err-check_rooms
unfolding view demand_rooms
returns-in_err-check_rooms c =
    let lent = lent_demands c.args.idents.now c.args.widths.now c.args.rates.now in
    let v = view c.args.request in
    let sound = sym c.check_request.ensures ∙ c.in_ok-check_request.was in
    let is_ready = ready c.args.request (whole c.args.request _ c.well_formed.0) sound in
    let short = ap (λ (n : ℕ). check_rooms n (demand_rooms lent)) (sym is_ready.all_demands) ∙ sym c.check_rooms.ensures ∙ c.in_err-check_rooms.was in
    let told = demands_refused_lem v lent _ (demands_fit v (demand_rooms lent) sound ∙ short) in
    record { answer = search (rules, told.0); idents = ap (λ (b : DemandBuffers). b.idents) told.1; widths = ap (λ (b : DemandBuffers). b.widths) told.1; rates = ap (λ (b : DemandBuffers). b.rates) told.1 }

pub write_column-requires : goal.write_column-requires
unfolding demand_rooms
write_column-requires c =
    let held = demands_held _ (lent_demands c.args.idents.now c.args.widths.now c.args.rates.now) (sym c.check_rooms.ensures ∙ c.in_ok-check_rooms.was) in
    record { call = λ k d h. tt; in_bounds = held.0 }

pub write_column-requires-2 : goal.write_column-requires-2
unfolding demand_rooms
write_column-requires-2 c =
    let held = demands_held _ (lent_demands c.args.idents.now c.args.widths.now c.args.rates.now) (sym c.check_rooms.ensures ∙ c.in_ok-check_rooms.was) in
    record { call = λ k d h. tt; in_bounds = held.1 }

pub write_column-requires-3 : goal.write_column-requires-3
unfolding demand_rooms
write_column-requires-3 c =
    let held = demands_held _ (lent_demands c.args.idents.now c.args.widths.now c.args.rates.now) (sym c.check_rooms.ensures ∙ c.in_ok-check_rooms.was) in
    record { call = λ k d h. tt; in_bounds = held.2 }

pub returns : goal.returns
unfolding view view_demand demand_rooms demands_over idents widths rates
returns c =
    let lent = lent_demands c.args.idents.now c.args.widths.now c.args.rates.now in
    let r = c.args.request in
    let ds = take r.demand_count r.demands in
    let sound = sym c.check_request.ensures ∙ c.in_ok-check_request.was in
    let is_ready = ready r (whole r _ c.well_formed.0) sound in
    let roomy = ap (λ (n : ℕ). check_rooms n (demand_rooms lent)) (sym is_ready.all_demands) ∙ sym c.check_rooms.ensures ∙ c.in_ok-check_rooms.was in
    let told = demands_written (view r) lent (demands_fit (view r) (demand_rooms lent) sound ∙ roomy) in
    let ident : DemandView → ℕ = λ (d : DemandView). d.ident in
    let rate : DemandView → ℕ = λ (d : DemandView). rate_asked d.asked in
    record {
      answer = ap Ok is_ready.all_demands ∙ told.0;
      idents = c.write_column.ensures (λ d. ident (view_demand d)) (λ k d h n p. search rules)
          ∙ ap (λ (l : List ℕ). over l c.args.idents.now) (column_seen ident ds) ∙ ap (λ (b : DemandBuffers). b.idents) told.1;
      widths = c.write_column-2.ensures (λ d. width_of (view_demand d)) (λ k d h n p. search rules)
          ∙ ap (λ (l : List ℕ). over l c.args.widths.now) (column_seen width_of ds) ∙ ap (λ (b : DemandBuffers). b.widths) told.1;
      rates = c.write_column-3.ensures (λ d. rate (view_demand d)) (λ k d h n p. search rules)
          ∙ ap (λ (l : List ℕ). over l c.args.rates.now) (column_seen rate ds) ∙ ap (λ (b : DemandBuffers). b.rates) told.1;
    }
