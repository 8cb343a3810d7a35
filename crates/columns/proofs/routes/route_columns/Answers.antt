use Rattle.std.proofs.Common.{ℕ, List, length, take, sym, ap, ◌∙◌, refl, arith, rules}
use Rattle.std.proofs.lemmas.List.{length-map}
use Rattle.std.specs.Prelude.{Ok}
use Rattle.request.specs.View.{DemandView, view, view_demand}
use Rattle.request.proofs.Arrays.{whole}
use Rattle.writing.specs.OutLaws.{ready}
use Rattle.lent.specs.Lent.{over}
use Rattle.lent.specs.LentLaws.{room_held}
use Rattle.columns.specs.Columns.{hop_counts}
use Rattle.columns.proofs.ColumnsLaws.{column_seen, routes_unsound, no_ends, no_hops, routes_fit, routes_refused_lem, routes_written}
use Rattle.columns.proofs.routes.route_columns.Goals as goal

pub returns-in_err-check_request : goal.returns-in_err-check_request
returns-in_err-check_request c =
    let a = c.args in
    let v = view a.request in
    let fault = sym c.check_request.ensures ∙ c.in_err-check_request.was in
    let told = routes_refused_lem v a.ends.now a.hops.now a.routes.now _ (routes_unsound v (length a.ends.now) (length a.hops.now) (length a.routes.now) _ fault) in
    record { answer = search (rules, told.0); ends = told.1.0; hops = told.1.1.0; routes = told.1.1.1 }

pub shared_ref_as_front-links : goal.shared_ref_as_front-links
shared_ref_as_front-links c =
    let is_ready = ready c.args.request (whole c.args.request _ c.well_formed.0) (sym c.check_request.ensures ∙ c.in_ok-check_request.was) in
    is_ready.few_links

pub shared_ref_as_front-demands : goal.shared_ref_as_front-demands
shared_ref_as_front-demands c =
    let is_ready = ready c.args.request (whole c.args.request _ c.well_formed.0) (sym c.check_request.ensures ∙ c.in_ok-check_request.was) in
    is_ready.few_demands

pub count_hops-total-requires : goal.count_hops-total-requires
count_hops-total-requires c =
    let is_ready = ready c.args.request (whole c.args.request _ c.well_formed.0) (sym c.check_request.ensures ∙ c.in_ok-check_request.was) in
    omega arith

pub returns-in_err-check_room : goal.returns-in_err-check_room
unfolding view
returns-in_err-check_room c =
    let a = c.args in
    let v = view a.request in
    let sound = sym c.check_request.ensures ∙ c.in_ok-check_request.was in
    let counted = length-map (take a.request.demand_count a.request.demands) view_demand in
    let told = routes_refused_lem v a.ends.now a.hops.now a.routes.now _
    (no_ends v (length a.ends.now) (length a.hops.now) (length a.routes.now) _ _ _ sound refl counted refl _ (sym c.check_room.ensures ∙ c.in_err-check_room.was)) in
    record { answer = search (rules, told.0); ends = told.1.0; hops = told.1.1.0; routes = told.1.1.1 }

pub returns-in_err-check_room-2 : goal.returns-in_err-check_room-2
unfolding view
returns-in_err-check_room-2 c =
    let a = c.args in
    let v = view a.request in
    let sound = sym c.check_request.ensures ∙ c.in_ok-check_request.was in
    let counted = length-map (take a.request.demand_count a.request.demands) view_demand in
    let told = routes_refused_lem v a.ends.now a.hops.now a.routes.now _
    (no_hops v (length a.ends.now) (length a.hops.now) (length a.routes.now) _ _ _ sound refl counted refl _
    (sym c.check_room.ensures ∙ c.in_ok-check_room.was) (sym c.check_room-2.ensures ∙ c.in_err-check_room-2.was)) in
    record { answer = search (rules, told.0); ends = told.1.0; hops = told.1.1.0; routes = told.1.1.1 }

pub returns-in_err-check_room-3 : goal.returns-in_err-check_room-3
unfolding view
returns-in_err-check_room-3 c =
    let a = c.args in
    let v = view a.request in
    let sound = sym c.check_request.ensures ∙ c.in_ok-check_request.was in
    let counted = length-map (take a.request.demand_count a.request.demands) view_demand in
    let told = routes_refused_lem v a.ends.now a.hops.now a.routes.now _
    (routes_fit v (length a.ends.now) (length a.hops.now) (length a.routes.now) _ _ _ sound refl counted (sym c.count_hops-total.ensures) _
    (sym c.check_room.ensures ∙ c.in_ok-check_room.was) (sym c.check_room-2.ensures ∙ c.in_ok-check_room-2.was) (sym c.check_room-3.ensures ∙ c.in_err-check_room-3.was)) in
    record { answer = search (rules, told.0); ends = told.1.0; hops = told.1.1.0; routes = told.1.1.1 }

pub write_ends-requires : goal.write_ends-requires
write_ends-requires c = room_held _ _ (sym c.check_room.ensures ∙ c.in_ok-check_room.was)

pub write_column-requires : goal.write_column-requires
write_column-requires c =
    let is_ready = ready c.args.request (whole c.args.request _ c.well_formed.0) (sym c.check_request.ensures ∙ c.in_ok-check_request.was) in
    record { call = λ k d h. let short = (is_ready.routes_fit k d h).short in λ _ _ _ _. record { fits = omega (arith, short) }; in_bounds = room_held _ _ (sym c.check_room-2.ensures ∙ c.in_ok-check_room-2.was) }

pub write_routes-requires : goal.write_routes-requires
write_routes-requires c = omega (arith, room_held _ _ (sym c.check_room-3.ensures ∙ c.in_ok-check_room-3.was), c.count_hops-total.ensures)

pub returns : goal.returns
unfolding view view_demand hop_counts
returns c =
    let a = c.args in
    let v = view a.request in
    let sound = sym c.check_request.ensures ∙ c.in_ok-check_request.was in
    let ds = take a.request.demand_count a.request.demands in
    let told = routes_written v a.ends.now a.hops.now a.routes.now
    (routes_fit v (length a.ends.now) (length a.hops.now) (length a.routes.now) _ _ _ sound refl (length-map ds view_demand) (sym c.count_hops-total.ensures) _
    (sym c.check_room.ensures ∙ c.in_ok-check_room.was) (sym c.check_room-2.ensures ∙ c.in_ok-check_room-2.was) (sym c.check_room-3.ensures ∙ c.in_ok-check_room-3.was)) in
    let hops : DemandView → ℕ = λ (d : DemandView). d.hops in
    record {
      answer = ap Ok c.count_hops-total.ensures ∙ told.0;
      ends = c.write_ends.ensures ∙ told.1.0;
      hops = c.write_column.ensures (λ d. hops (view_demand d)) (λ k d h n p. search rules) ∙ ap (λ (l : List ℕ). over l a.hops.now) (column_seen hops ds) ∙ told.1.1.0;
      routes = c.write_routes.ensures ∙ told.1.1.1;
    }
