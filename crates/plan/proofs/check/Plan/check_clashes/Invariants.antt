use Rattle.std.proofs.Common.{◌≡◌, ◌-◌}
use Rattle.meeting.specs.inner.Small.{problem_in}
use Rattle.plan.specs.inner.Rows.{clashes_from}
use Rattle.plan.proofs.check.Plan.check_clashes.Given as goal

abbrev pub invariant-loop-k : goal.invariant-loop-k
invariant-loop-k l =
    clashes_from (problem_in l.self.compact.now) l.self.starts.now 0 l.self.compact.now.count
    ≡ clashes_from (problem_in l.self.compact.now) l.self.starts.now l.k (l.self.compact.now.count - l.k)
