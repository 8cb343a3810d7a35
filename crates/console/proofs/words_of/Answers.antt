-- The mark is what `split_once` cuts at, at its first place.
use Rattle.std.proofs.Common.{sym, ◌∙◌}
use Rattle.console.specs.WordsLaws.{up_to_first, up_to_none}
use Rattle.console.specs.Words.{words_of}
use Rattle.console.proofs.words_of.Goals as goal

pub returns-in-Some : goal.returns-in-Some
unfolding words_of
returns-in-Some c =
    let cut = c.in-Some.ensures.cases in
    cut.3 ∙ sym (up_to_first _ c.args.text.now cut.0 _ cut.2.0 cut.2.1.split)

pub returns-in-None : goal.returns-in-None
unfolding words_of
returns-in-None c = sym (up_to_none _ c.args.text.now c.in-None.ensures.cases)
