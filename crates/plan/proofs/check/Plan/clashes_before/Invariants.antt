use Rattle.std.proofs.Common.{◌≡◌}
use Rattle.theory.specs.Problem.{fits}
use Rattle.meeting.specs.inner.Small.{problem_in}
use Rattle.meeting.specs.Plan.{start_at}
use Rattle.plan.specs.inner.Rows.{rows_before}
use Rattle.plan.proofs.check.Plan.clashes_before.Given as goal

abbrev pub invariant-loop-j : goal.invariant-loop-j
invariant-loop-j l =
    fits (problem_in l.self.compact.now) (rows_before l.self.starts.now l.k) l.k (start_at l.self.starts.now l.k)
    ≡ fits (problem_in l.self.compact.now) (rows_before l.self.starts.now l.j) l.k (start_at l.self.starts.now l.k)
