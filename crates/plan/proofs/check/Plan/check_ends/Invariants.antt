use Rattle.std.proofs.Common.{◌≡◌, ◌-◌}
use Rattle.meeting.specs.inner.Small.{problem_in}
use Rattle.plan.specs.inner.Rows.{ends_from}
use Rattle.plan.proofs.check.Plan.check_ends.Given as goal

abbrev pub invariant-loop-k : goal.invariant-loop-k
invariant-loop-k l =
    ends_from (problem_in l.compact) l.compact.slots l.self.starts.now 0 l.compact.count
    ≡ ends_from (problem_in l.compact) l.compact.slots l.self.starts.now l.k (l.compact.count - l.k)
