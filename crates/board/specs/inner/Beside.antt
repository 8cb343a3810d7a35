-- What stands near a demand as a problem with its rows: the demand has the number 200.
use Rattle.std.specs.Prelude.{List, length}
use Rattle.theory.specs.Problem.{Problem, Row}
use Rattle.board.specs.Board.{number_rows}
use Rattle.board.specs.declared.standing.Near.{Near}
use Rattle.board.specs.inner.Near.{near_problem}

-- the problem of placing the demand beside the blocks
abbrev pub problem_near : Near → Problem
problem_near near = near_problem near.past near.starts.now near.span

-- the blocks as rows
abbrev pub rows_near : Near → List Row
rows_near near = number_rows (length near.starts.now) near.starts.now
