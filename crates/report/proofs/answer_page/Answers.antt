use Rattle.search.specs.Reply.{outcome_end}
use Rattle.report.specs.Lines.{end_name, bound_name, steps_name, reached_name, ruled_name, newline}
use Rattle.report.specs.LinesLaws.{answer_put}
use Rattle.report.specs.Report.{word_of, answer_text}
use Rattle.report.proofs.answer_page.Goals as goal

pub returns-clause-value : goal.returns-clause-value
unfolding answer_text end_name bound_name steps_name reached_name ruled_name newline
returns-clause-value c =
    let a = c.args.answer in
    answer_put (word_of a.outcome) (outcome_end a.outcome) a.bound a.steps a.reached a.ruled
    c.empty-page.ensures.value
    (rw c.word_and_end-end.ensures.word at c.put_text.ensures.value)
    (rw (c.from.ensures, c.word_and_end-end.ensures.end) at c.put_named.ensures.value)
    (rw c.from-2.ensures at c.put_named-2.ensures.value)
    (rw c.from-3.ensures at c.put_named-3.ensures.value)
    c.put_named-4.ensures.value
    c.put_named-5.ensures.value
    c.put_text-2.ensures.value
