use Rattle.std.proofs.Common.{◌≡◌, ◌+◌, ap, ◌∙◌, arith}
use Rattle.std.proofs.lemmas.Grind.{common_steps}
use Rattle.board.specs.Board.{blocker_told}
use Rattle.board.specs.inner.Beside.{problem_near, rows_near}
use Rattle.board.proofs.ScanLaws.{below_zero, below_higher}
use Rattle.board.proofs.standing.Near.blocker_below.Goals as goal

pub returns-in_err-below : goal.returns-in_err-below
unfolding blocker_told
returns-in_err-below c =
    let near = c.args.self.now in
    let zero : c.args.start ≡ 0 = grind (arith, common_steps) in
    c.from_residual.ensures ∙ ap blocker_told (below_zero (problem_near near) (rows_near near) 200 c.args.start zero)

pub returns : goal.returns
returns c =
    let near = c.args.self.now in
    let above : c.args.start ≡ c.in_ok-below.below + 1 = grind (arith, common_steps) in
    rw (← below_higher (problem_near near) (rows_near near) 200 c.args.start c.in_ok-below.below above) c.blocker_at.ensures
