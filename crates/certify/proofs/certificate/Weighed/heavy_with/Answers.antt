use Rattle.std.proofs.Common.{◌≡◌, refl, sym, ap, ◌∙◌, ℕ, zero, suc, ◌||◌, ◌+◌, Bool, length, rules, tests}
use Rattle.std.specs.List.{list_any, range_with_len}
use Rattle.std.proofs.lemmas.Iterator.{YieldsList-from_range}
use Rattle.std.proofs.lemmas.Iterator.Search.{any_from_yields_List}
use Rattle.certify.specs.Reply.{some_from}
use Rattle.certify.specs.inner.Sets.{sharing_in, pair_heavy}
use Rattle.certify.specs.SetsLaws.{weighs_nothing, weighs_something}
use Rattle.certify.proofs.certificate.Weighed.heavy_with.Goals as goal

-- one of a range passes a test
any_from : (test : ℕ → Bool) (k n : ℕ) → list_any test (range_with_len k n) ≡ some_from test k n
unfolding some_from
any_from test k zero = refl
any_from test k (suc n) = ap (λ (b : Bool). test k || b) (any_from test (k + 1) n)

pub returns-then-self-i-eq0 : goal.returns-then-self-i-eq0
returns-then-self-i-eq0 c =
    let w = c.args.self.now in
    sym (weighs_nothing (sharing_in w.words.now) w.weights.now w.a (length w.weights.now) c.args.i c.if-self-i-eq0.true)

pub returns : goal.returns
returns c =
    let w = c.args.self.now in
    let heavy = pair_heavy (sharing_in w.words.now) w.weights.now w.a (length w.weights.now) c.args.i in
    any_from_yields_List heavy _ _ _ c.any.ensures.ran (YieldsList-from_range (c.args.i + 1) (length w.weights.now) _ refl refl) (λ x b q k. search (rules, tests))
    ∙ any_from heavy (c.args.i + 1) _
    ∙ sym (weighs_something (sharing_in w.words.now) w.weights.now w.a (length w.weights.now) c.args.i c.if-self-i-eq0.false)
