use Rattle.std.specs.Prelude.{Bool, not, ◌&&◌, ◌||◌, ◌+◌, ltb, length, get_or}
use Rattle.std.proofs.Common.{refl, sym, ap₂, ◌∙◌}
use Rattle.certify.specs.Reply.{heavy_three}
use Rattle.certify.specs.inner.Sets.{sharing_in, third_heavy}
use Rattle.certify.specs.SetsLaws.{some_none, some_here, some_on}
use Rattle.certify.specs.PairLaws.{third_is}
use Rattle.certify.proofs.certificate.Weighed.heavy_third.Goals as goal

pub loop-k-init : goal.loop-k-init
unfolding heavy_three third_heavy
loop-k-init c = refl

pub returns-then-too_heavy : goal.returns-then-too_heavy
unfolding sharing_in
returns-then-too_heavy c =
    let w = c.args.self.now in
    let a = c.args in
    let k = c.loop-k.k in
    let third =
    c.too_heavy.ensures
    ∙ ap₂ (λ (p q : Bool). not (p || q) && (ltb 0 (get_or w.weights.now k 0) && ltb w.a (a.pair + get_or w.weights.now k 0))) c.share_bit.ensures c.share_bit-in-loop-k.ensures
    ∙ third_is (sharing_in w.words.now) w.weights.now w.a (length w.weights.now) a.i a.j k a.pair c.requires.pair_value.0 in
    sym (some_here (third_heavy (sharing_in w.words.now) w.weights.now w.a (length w.weights.now) a.i a.j) k (length w.weights.now) c.loop-k-test.true
    (sym third ∙ c.if-too_heavy.true))
    ∙ c.loop-k.invariant

pub loop-k-preserved : goal.loop-k-preserved
unfolding sharing_in
loop-k-preserved c =
    let w = c.args.self.now in
    let a = c.args in
    let k = c.loop-k.k in
    let third =
    c.too_heavy.ensures
    ∙ ap₂ (λ (p q : Bool). not (p || q) && (ltb 0 (get_or w.weights.now k 0) && ltb w.a (a.pair + get_or w.weights.now k 0))) c.share_bit.ensures c.share_bit-in-loop-k.ensures
    ∙ third_is (sharing_in w.words.now) w.weights.now w.a (length w.weights.now) a.i a.j k a.pair c.requires.pair_value.0 in
    sym (some_on (third_heavy (sharing_in w.words.now) w.weights.now w.a (length w.weights.now) a.i a.j) k (length w.weights.now) c.loop-k-test.true
    (sym third ∙ c.if-too_heavy.false))
    ∙ c.loop-k.invariant

pub returns : goal.returns
returns c =
    let w = c.args.self.now in
    sym (some_none (third_heavy (sharing_in w.words.now) w.weights.now w.a (length w.weights.now) c.args.i c.args.j) c.loop-k.k (length w.weights.now) c.loop-k-test.false)
    ∙ c.loop-k.invariant
