use Rattle.std.proofs.Common.{sym, ◌∙◌}
use Rattle.std.proofs.lemmas.Result.{err_from_is_err_and}
use Rattle.request.specs.View.{view}
use Rattle.request.proofs.LimitsLaws.{checked_limits}
use Rattle.request.proofs.Arrays.{whole}
use Rattle.placing.proofs.FirstFitLaws.{request_refused_lem, order_refused, order_passes}
use Rattle.placing.proofs.check_first_fit.Goals as goal

pub returns-in_err-check_request : goal.returns-in_err-check_request
unfolding view
returns-in_err-check_request c =
    let handed-on = err_from_is_err_and c.from_residual.result c.from_residual.ensures.1 in
    rw (handed-on.1, handed-on.2)
    (sym (request_refused_lem (view c.args.request) c.args.order.now _ _
    (sym c.check_request.ensures ∙ c.in_err-check_request.was)))

pub check_order-requires : goal.check_order-requires
unfolding view
check_order-requires c =
    (checked_limits c.args.request (whole c.args.request _ c.well_formed.0)
    (sym c.check_request.ensures ∙ c.in_ok-check_request.was)).most_demands

pub returns-in_err-check_order : goal.returns-in_err-check_order
unfolding view
returns-in_err-check_order c =
    let handed-on = err_from_is_err_and c.from_residual-in_err-check_order.result c.from_residual-in_err-check_order.ensures.1 in
    rw (handed-on.1, handed-on.2)
    (sym (order_refused (view c.args.request) c.args.order.now _
    (sym c.check_request.ensures ∙ c.in_ok-check_request.was)
    _
    (sym c.check_order.ensures ∙ c.in_err-check_order.was)))

pub returns : goal.returns
unfolding view
returns c =
    c.check_rooms.ensures
    ∙ sym (order_passes (view c.args.request) c.args.order.now _
    (sym c.check_request.ensures ∙ c.in_ok-check_request.was)
    (sym c.check_order.ensures ∙ c.in_ok-check_order.was))
