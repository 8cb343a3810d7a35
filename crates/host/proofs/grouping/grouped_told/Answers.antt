use Rattle.std.specs.Prelude.{ℕ, Option, Some, None, Result, Ok}
use Rattle.refusal.specs.declared.Refusal.{Refusal}
use mathlib.Core.Path.{◌≡◌, sym, ap, ap₂, ◌∙◌}
use Rattle.groups.specs.declared.Grouped.{Grouped}
use Rattle.host.specs.Host.{outcome_told, grouped_told}
use Rattle.host.proofs.grouping.grouped_told.Goals as goal

-- what is told of a bound and a reply that are known
told : (need : Result ℕ Refusal) (least m : ℕ) (reply known : Result (Option Grouped) Refusal) → need ≡ Ok least → reply ≡ known →
    grouped_told (Ok least) m known ≡ grouped_told need m reply
told need least m reply known h k = sym (ap₂ (λ (b : Result ℕ Refusal) (r : Result (Option Grouped) Refusal). grouped_told b m r) h k)

pub returns-in-Ok-Some : goal.returns-in-Ok-Some
unfolding grouped_told outcome_told
returns-in-Ok-Some c =
    let a = c.args in
    let same : c.in-Ok-Some.field-0 ≡ Some c.in-Ok-Some.plan = rw c.in-Ok-Some.is at c.in-Ok-Some.field-0-is in
    told a.need _ a.m a.reply _ c.in-Ok.is
    (c.in-Ok-Some.is ∙ ap {B = Result (Option Grouped) Refusal} (λ (best : Option Grouped). Ok best) same)

pub returns-in-Ok-None : goal.returns-in-Ok-None
unfolding grouped_told outcome_told
returns-in-Ok-None c =
    let a = c.args in
    let same : c.in-Ok-None.field-0 ≡ None = rw c.in-Ok-None.is at c.in-Ok-None.field-0-is in
    told a.need _ a.m a.reply _ c.in-Ok.is
    (c.in-Ok-None.is ∙ ap {B = Result (Option Grouped) Refusal} (λ (best : Option Grouped). Ok best) same)

pub returns-in-Err-reply : goal.returns-in-Err-reply
unfolding grouped_told
returns-in-Err-reply c =
    let a = c.args in
    c.from.ensures ∙ told a.need _ a.m a.reply _ c.in-Ok.is c.in-Err-reply.is

pub returns-in-Err : goal.returns-in-Err
unfolding grouped_told
returns-in-Err c =
    let a = c.args in
    c.from-in-Err.ensures ∙ sym (ap (λ (b : Result ℕ Refusal). grouped_told b a.m a.reply) c.in-Err.is)
