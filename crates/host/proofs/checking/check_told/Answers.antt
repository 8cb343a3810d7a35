use Rattle.std.specs.Prelude.{ℕ, Result}
use Rattle.refusal.specs.declared.Refusal.{Refusal}
use Rattle.refusal.specs.Refusal.{number_of}
use mathlib.Core.Path.{◌≡◌, refl, sym, ap, ap₂, ◌∙◌}
use Rattle.host.specs.Host.{check_told}
use Rattle.host.proofs.HostLaws.{of_buffer, of_plan}
use Rattle.host.proofs.checking.check_told.Goals as goal

-- what is told of two replies that are known
told : (need need' : Result ℕ Refusal) (reply reply' : Result ℕ Refusal) → need ≡ need' → reply ≡ reply' → check_told need' reply' ≡ check_told need reply
told need need' reply reply' h k = sym (ap₂ (λ (b : Result ℕ Refusal) (r : Result ℕ Refusal). check_told b r) h k)

pub returns-in-Err : goal.returns-in-Err
unfolding check_told
returns-in-Err c = c.verdict_refused.ensures ∙ told c.args.need _ c.args.reply c.args.reply c.in-Err.is refl

pub returns-in-Ok-reply : goal.returns-in-Ok-reply
unfolding check_told
returns-in-Ok-reply c = told c.args.need _ c.args.reply _ c.in-Ok.is c.in-Ok-reply.is

pub returns-in-Err-reply : goal.returns-in-Err-reply
unfolding check_told
returns-in-Err-reply c =
    let a = c.args in
    c.verdict_refused-in-Err-reply.ensures
    ∙ (of_buffer c.in-Err-reply.why c.number.result c.number.ensures c.if-number-eq10.true
    ∙ told a.need _ a.reply _ c.in-Ok.is c.in-Err-reply.is)

pub returns-in-Err-2 : goal.returns-in-Err-2
unfolding check_told
returns-in-Err-2 c =
    let a = c.args in
    let same : c.in-Err-reply.why ≡ c.in-Err-2.why = cc in
    c.verdict_refused-in-Err-2.ensures
    ∙ (of_plan c.in-Err-2.why c.number.result (c.number.ensures ∙ ap number_of same) c.if-number-eq10.false
    ∙ told a.need _ a.reply _ c.in-Ok.is c.in-Err-2.is)
