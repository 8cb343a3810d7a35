use Rattle.std.proofs.Common.{◌∙◌}
use Rattle.board.proofs.BoardLaws.{front_spot}
use Rattle.board.proofs.lowest_spot.Goals as goal

pub returns : goal.returns
returns c =
    let a = c.args in
    let near = c.beside-near in
    c.spot_below.ensures
    ∙ front_spot a.meets.now a.starts.now a.ends.now a.count a.width a.guard a.slots
    near.result.past near.result.starts.now near.result.span c.first_above-above.result c.lowest_below.result
    (cc) near.ensures.past near.ensures.starts near.ensures.span c.first_above-above.ensures c.lowest_below.ensures
