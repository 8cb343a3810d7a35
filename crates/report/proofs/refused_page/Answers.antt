use Rattle.refusal.specs.Refusal.{number_of, place_of}
use Rattle.report.specs.Lines.{refused_word, space, newline}
use Rattle.report.specs.LinesLaws.{refused_put}
use Rattle.report.specs.Report.{refusal_text}
use Rattle.report.proofs.refused_page.Goals as goal

pub returns-clause-value : goal.returns-clause-value
unfolding refusal_text refused_word space newline
returns-clause-value c =
    let why = c.args.why in
    refused_put (number_of why) (place_of why)
    c.empty-page.ensures.value
    c.put_text.ensures.value
    (rw (c.from.ensures, c.number.ensures) at c.put_named.ensures.value)
    (rw c.place.ensures at c.put_named-2.ensures.value)
    c.put_text-2.ensures.value
