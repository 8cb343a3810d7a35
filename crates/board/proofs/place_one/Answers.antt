use Rattle.std.specs.Prelude.{ℕ, Option}
use Rattle.std.proofs.Common.{ap, ◌∙◌}
use Rattle.board.proofs.BoardLaws.{front_placed}
use Rattle.board.proofs.place_one.Goals as goal

pub returns : goal.returns
returns c =
    let a = c.args in
    let near = c.beside-near in
    ap (λ (spot : Option ℕ). record { spot = spot; blocker = c.blocker_below.result }) c.spot_below.ensures
    ∙ front_placed a.meets.now a.starts.now a.ends.now a.count a.width a.guard a.slots
    near.result.past near.result.starts.now near.result.span c.first_above-above.result c.lowest_below-start.result
    (cc) near.ensures.past near.ensures.starts near.ensures.span c.first_above-above.ensures c.lowest_below-start.ensures
    c.blocker_below.result c.blocker_below.ensures
