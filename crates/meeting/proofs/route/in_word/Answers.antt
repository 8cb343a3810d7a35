use Rattle.std.proofs.Common.{ℕ, ltb, rules, tests}
use Rattle.std.proofs.lemmas.Iterator.{YieldsList-from_slice}
use Rattle.std.proofs.lemmas.Iterator.Search.{all_from_yields_List}
use Rattle.meeting.specs.inner.Word.{all_low}
use Rattle.meeting.proofs.route.in_word.Goals as goal

pub returns : goal.returns
unfolding all_low
returns c =
    all_from_yields_List (λ (x : ℕ). ltb x 64) _ _ _ c.all.ensures.ran (YieldsList-from_slice c.args.route.now cc) (λ x b q k. search (rules, tests))
