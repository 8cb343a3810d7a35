use Rattle.std.specs.Prelude.{Bool, List}
use Rattle.std.proofs.Common.{ap, ◌∙◌}
use Rattle.board.specs.Board.{placed_one}
use Rattle.meeting.specs.inner.Small.{problem_in}
use Rattle.placing.proofs.fit.place_beside.Goals as goal

pub returns : goal.returns
unfolding problem_in
returns c =
    let a = c.args in
    let compact = a.compact.now in
    c.place_one.ensures
    ∙ ap
    (λ (row : List Bool). placed_one row a.starts.now a.ends.now compact.count ((problem_in compact).width a.i) compact.guard compact.slots)
    c.word_row-row.ensures
