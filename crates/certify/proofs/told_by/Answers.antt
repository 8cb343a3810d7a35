use Rattle.std.specs.Prelude.{List, Result, Ok}
use Rattle.std.proofs.lemmas.Result.{err_from_is_err_and}
use Rattle.refusal.specs.declared.Refusal.{Refusal}
use Rattle.meeting.specs.declared.Compact.{Compact}
use Prim.Native.Nat.{ℕ}
use mathlib.Core.Path.{◌≡◌, sym, ap, ◌∙◌}
use Rattle.theory.specs.Certificate.{certified_end}
use Rattle.meeting.specs.inner.Small.{problem_in}
use Rattle.certify.specs.declared.Certified.TheVariants.{AtLeast}
use Rattle.certify.specs.inner.Sets.{sharing_in, checked_in, low_in}
use Rattle.certify.specs.ReplyLaws.{passed_shape, told_refused, told_best, told_above}
use Rattle.certify.specs.SmallLaws.{checked_by_words}
use Rattle.certify.proofs.told_by.Goals as goal

-- the test by words is the test of the problem
tested : (compact : Compact) (weights : List ℕ) (a : ℕ) (answer : Result Unit Refusal) →
    answer ≡ checked_in (sharing_in compact.words) compact.count weights a → answer ≡ checked_in (problem_in compact) compact.count weights a
tested compact weights a answer by_words = by_words ∙ checked_by_words compact weights a compact.count

pub check_certificate-requires : goal.check_certificate-requires
check_certificate-requires c = c.requires.most_demands

pub returns-in_err-check_certificate : goal.returns-in_err-check_certificate
returns-in_err-check_certificate c =
    let a = c.args in
    let fails = sym (tested a.compact.now a.weights.now a.a _ c.check_certificate.ensures) ∙ c.in_err-check_certificate.was in
    let handed-on = err_from_is_err_and c.from_residual.result c.from_residual.ensures.1 in
    rw (handed-on.1, handed-on.2) (told_refused (problem_in a.compact.now) a.compact.now.count a.weights.now a.a a.compact.now.guard a.end _ fails)

pub weighed_sum-sum-requires : goal.weighed_sum-sum-requires
weighed_sum-sum-requires c =
    let a = c.args in
    let passes = sym (tested a.compact.now a.weights.now a.a _ c.check_certificate.ensures) ∙ c.in_ok-check_certificate.was in
    record { small = c.requires; weights_len = (passed_shape (problem_in a.compact.now) a.compact.now.count a.weights.now a.a passes).0 }

pub shared_out-low-requires : goal.shared_out-low-requires
shared_out-low-requires c =
    let a = c.args in
    let passes = sym (tested a.compact.now a.weights.now a.a _ c.check_certificate.ensures) ∙ c.in_ok-check_certificate.was in
    let shape = passed_shape (problem_in a.compact.now) a.compact.now.count a.weights.now a.a passes in
    (rw c.from.ensures shape.1, rw c.from.ensures shape.2, c.weighed_sum-sum.ensures.1)

pub returns-then-low-from : goal.returns-then-low-from
unfolding low_in
returns-then-low-from c =
    let a = c.args in
    let passes = sym (tested a.compact.now a.weights.now a.a _ c.check_certificate.ensures) ∙ c.in_ok-check_certificate.was in
    let low_is : c.shared_out-low.result ≡ low_in (problem_in a.compact.now) a.compact.now.guard a.compact.now.count a.weights.now a.a
    = (rw (c.from.ensures, c.from-2.ensures) at c.shared_out-low.ensures) ∙ ap (λ (sum : ℕ). certified_end a.compact.now.guard a.a sum) c.weighed_sum-sum.ensures.0 in
    told_best (problem_in a.compact.now) a.compact.now.count a.weights.now a.a a.compact.now.guard a.end passes (sym low_is ∙ c.if-low-from.true ∙ c.from-3.ensures)

pub returns-else-low-from : goal.returns-else-low-from
unfolding low_in
returns-else-low-from c =
    let a = c.args in
    let passes = sym (tested a.compact.now a.weights.now a.a _ c.check_certificate.ensures) ∙ c.in_ok-check_certificate.was in
    let low_is : c.shared_out-low.result ≡ low_in (problem_in a.compact.now) a.compact.now.guard a.compact.now.count a.weights.now a.a
    = (rw (c.from.ensures, c.from-2.ensures) at c.shared_out-low.ensures) ∙ ap (λ (sum : ℕ). certified_end a.compact.now.guard a.a sum) c.weighed_sum-sum.ensures.0 in
    ap (λ (low : ℕ). Ok (AtLeast low a.end)) low_is
    ∙ told_above (problem_in a.compact.now) a.compact.now.count a.weights.now a.a a.compact.now.guard a.end passes (λ e. c.if-low-from.false (low_is ∙ e ∙ sym c.from-3.ensures))
