use mathlib.Core.Path.{sym, ◌∙◌}
use Rattle.std.proofs.lemmas.Result.{err_from_is_err_and}
use Rattle.request.specs.View.{view}
use Rattle.groups.specs.ReplyLaws.{request_refused_lem, rooms_refused, groups_pass, groups_outside}
use Rattle.groups.proofs.check_groups.Goals as goal

pub returns-in_err-check_request : goal.returns-in_err-check_request
returns-in_err-check_request c =
    let a = c.args in
    let fails = sym c.check_request.ensures ∙ c.in_err-check_request.was in
    let handed_on = err_from_is_err_and c.from_residual.result c.from_residual.ensures.1 in
    rw (handed_on.1, handed_on.2) (sym (request_refused_lem (view a.request) a.m _ _ fails))

pub returns-in_err-check_rooms : goal.returns-in_err-check_rooms
unfolding view
returns-in_err-check_rooms c =
    let a = c.args in
    let fails = sym c.check_rooms.ensures ∙ c.in_err-check_rooms.was in
    let handed_on = err_from_is_err_and c.from_residual-in_err-check_rooms.result c.from_residual-in_err-check_rooms.ensures.1 in
    rw (handed_on.1, handed_on.2)
    (sym (rooms_refused (view a.request) a.m _ (sym c.check_request.ensures ∙ c.in_ok-check_request.was) _ fails))

pub returns-then-can_group : goal.returns-then-can_group
unfolding view
returns-then-can_group c =
    let a = c.args in
    sym (groups_pass (view a.request) a.m _
    (sym c.check_request.ensures ∙ c.in_ok-check_request.was)
    (sym c.check_rooms.ensures ∙ c.in_ok-check_rooms.was)
    (sym c.can_group.ensures ∙ c.if-can_group.true))

pub returns-else-can_group : goal.returns-else-can_group
unfolding view
returns-else-can_group c =
    let a = c.args in
    sym (groups_outside (view a.request) a.m _
    (sym c.check_request.ensures ∙ c.in_ok-check_request.was)
    (sym c.check_rooms.ensures ∙ c.in_ok-check_rooms.was)
    (sym c.can_group.ensures ∙ c.if-can_group.false))
