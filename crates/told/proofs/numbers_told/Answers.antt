use Rattle.std.specs.Prelude.{ℕ, Result}
use Rattle.refusal.specs.declared.Refusal.{Refusal}
use mathlib.Core.Path.{sym, ap, ◌∙◌}
use mir.Syntax.{w16}
use mir.Val.{SFits}
use mir.Facts.{to_z-of_z}
use Rattle.request.specs.View.{view}
use Rattle.told.specs.RequestTold.{request_told}
use borrow.Author.Rules.{rules}
use Rattle.told.proofs.numbers_told.Goals as goal

pub returns-in-Ok : goal.returns-in-Ok
unfolding request_told view
returns-in-Ok c =
    let v = view c.args.request in
    let edge : SFits w16 c.args.request.band.n0 = search rules in
    rw (to_z-of_z edge) (ap (λ (b : Result ℕ Refusal). request_told b v) (sym c.in-Ok.is ∙ c.bound.ensures))

pub returns-in-Err : goal.returns-in-Err
unfolding request_told
returns-in-Err c =
    let v = view c.args.request in
    c.from.ensures ∙ ap (λ (b : Result ℕ Refusal). request_told b v) (sym c.in-Err.is ∙ c.bound.ensures)
