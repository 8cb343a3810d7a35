-- `host::certifying::certified_told` meets its contract, case by case.
use Rattle.std.specs.Prelude.{◌≡◌, Result, Ok}
use Rattle.refusal.specs.declared.Refusal.{Refusal}
use Rattle.certify.specs.declared.Certified.{Certified}
use mathlib.Core.Path.{sym, ap, ◌∙◌}
use Rattle.certify.specs.declared.Certified.TheVariants.{Best, AtLeast}
use Rattle.host.specs.Certified.{certify_told}
use Rattle.host.proofs.CertifiedLaws.{of_certificate, of_its_plan}
use Rattle.host.proofs.certifying.certified_told.Goals as goal

pub returns-then-number-eq30 : goal.returns-then-number-eq30
unfolding certify_told
returns-then-number-eq30 c =
    c.certified_refused.ensures ∙ (of_certificate c.in-Err.why c.number.result c.number.ensures c.if-number-eq30.true
    ∙ sym (ap certify_told c.in-Err.is))

pub returns-in-Ok-Best : goal.returns-in-Ok-Best
unfolding certify_told
returns-in-Ok-Best c =
    let same : c.in-Ok-Best.field-0 ≡ Best c.in-Ok-Best.end = rw c.in-Ok-Best.is at c.in-Ok-Best.field-0-is in
    sym (ap certify_told (c.in-Ok-Best.is ∙ ap {B = Result Certified Refusal} (λ (told : Certified). Ok told) same))

pub returns-in-Ok-AtLeast : goal.returns-in-Ok-AtLeast
unfolding certify_told
returns-in-Ok-AtLeast c =
    let same : c.in-Ok-AtLeast.field-0 ≡ AtLeast c.in-Ok-AtLeast.low c.in-Ok-AtLeast.end = rw c.in-Ok-AtLeast.is at c.in-Ok-AtLeast.field-0-is in
    sym (ap certify_told (c.in-Ok-AtLeast.is ∙ ap {B = Result Certified Refusal} (λ (told : Certified). Ok told) same))

pub returns-else-number-eq30 : goal.returns-else-number-eq30
unfolding certify_told
returns-else-number-eq30 c =
    c.certified_refused-in-Err.ensures ∙ (of_its_plan c.in-Err.why c.number.result c.number.ensures c.if-number-eq30.false
    ∙ sym (ap certify_told c.in-Err.is))
