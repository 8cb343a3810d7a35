use Rattle.std.proofs.Common.{sym, ap, ◌∙◌, arith, leb-true}
use Rattle.theory.proofs.TestLaws.{and_first, and_second}
use Rattle.std.proofs.lemmas.Result.{err_from_is_err_and}
use Rattle.std.specs.Prelude.{ℕ, ◌≡◌, ◌≤◌, true, false, ◌&&◌, leb}
use Rattle.std.proofs.lemmas.Bool.Decides.{nat_tests}
use Rattle.certify.specs.Reply.{check_sets}
use Rattle.certify.specs.inner.Sets.{sharing_in}
use Rattle.certify.specs.ReplyLaws.{length_refused, kind_refused, weights_refused, sets_decide}
use Rattle.certify.proofs.certificate.check_certificate.Goals as goal
use Rattle.certify.proofs.certificate.check_certificate.Goals.{then-weights-count-via-then-weights-count, then-weights-count-via-else-weights-count+then-not-contains}

-- a number between 1 and 2
between : (a : ℕ) → (leb 1 a && leb a 2) ≡ true → (a ≡ 0 → ⊥) × (a ≤ 2)
between a right =
    let some : 1 ≤ a = leb-true 1 a (and_first (leb 1 a) (leb a 2) right) in
    (λ none. omega arith, leb-true a 2 (and_second (leb 1 a) (leb a 2) right))

pub returns-then-weights-count : goal.returns-then-weights-count
returns-then-weights-count c =
    let a = c.args in
    elim c.then-weights-count.branch [
      | then-weights-count-via-then-weights-count w ↦ length_refused (sharing_in a.words.now) a.count a.weights.now a.a w.if-weights-count.true
      | then-weights-count-via-else-weights-count+then-not-contains w ↦ kind_refused (sharing_in a.words.now) a.count a.weights.now a.a w.if-weights-count.false (let told = simp (w.new.ensures.start, w.new.ensures.end, w.new.ensures.exhausted) at w.contains.ensures.value in let wrong : (leb 1 a.a && leb a.a 2) ≡ false = grind (arith, nat_tests, w.if-not-contains.true) in wrong)
    ]

pub returns-in_err-check_weights : goal.returns-in_err-check_weights
returns-in_err-check_weights c =
    let a = c.args in
    let told = simp (c.new.ensures.start, c.new.ensures.end, c.new.ensures.exhausted) at c.contains.ensures.value in
    let right : (leb 1 a.a && leb a.a 2) ≡ true = grind (arith, nat_tests) in
    let handed-on = err_from_is_err_and c.from_residual.result c.from_residual.ensures.1 in
    rw (handed-on.1, handed-on.2)
    (weights_refused (sharing_in a.words.now) a.count a.weights.now a.a c.if-weights-count.false (between a.a right).0 (between a.a right).1
    _ (sym c.check_weights.ensures ∙ c.in_err-check_weights.was))

pub returns : goal.returns
returns c =
    let a = c.args in
    let told = simp (c.new.ensures.start, c.new.ensures.end, c.new.ensures.exhausted) at c.contains.ensures.value in
    let right : (leb 1 a.a && leb a.a 2) ≡ true = grind (arith, nat_tests) in
    c.check_sets.ensures
    ∙ ap (λ (K : ℕ). check_sets (sharing_in a.words.now) a.weights.now a.a K 0 K) c.if-weights-count.false
    ∙ sets_decide (sharing_in a.words.now) a.count a.weights.now a.a c.if-weights-count.false (between a.a right).0 (between a.a right).1
    (sym c.check_weights.ensures ∙ c.in_ok-check_weights.was)
