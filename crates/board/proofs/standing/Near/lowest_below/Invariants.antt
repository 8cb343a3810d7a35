use Rattle.std.proofs.Common.{◌≤◌, ◌≡◌}
use Rattle.theory.specs.Problem.{lowest}
use Rattle.theory.specs.inner.Scan.{next_start, rows_ahead}
use Rattle.board.specs.Board.{number_rows}
use Rattle.board.specs.inner.Near.{near_problem}
use Rattle.board.specs.inner.Beside.{problem_near, rows_near}
use Rattle.board.proofs.standing.Near.lowest_below.Given as goal

abbrev pub invariant-loop-j : goal.invariant-loop-j
invariant-loop-j l = l.next ≡ next_start (near_problem l.self.past l.self.starts.now l.self.span) (number_rows l.j l.self.starts.now) 200 l.start

abbrev pub invariant-scan : goal.invariant-scan
invariant-scan l = l.start ≤ lowest (problem_near l.self) (rows_near l.self) 200

abbrev pub decreases-scan : goal.decreases-scan
decreases-scan l = rows_ahead (problem_near l.self) (rows_near l.self) 200 l.start
