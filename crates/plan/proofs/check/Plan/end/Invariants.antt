use Rattle.std.proofs.Common.{◌≡◌, ◌-◌, max, []}
use Rattle.theory.specs.Problem.{plan_end}
use Rattle.theory.specs.Orders.{count_up}
use Rattle.meeting.specs.inner.Small.{problem_in}
use Rattle.meeting.specs.Plan.{start_at}
use Rattle.plan.proofs.check.Plan.end.Given as goal

abbrev pub invariant-loop-k : goal.invariant-loop-k
invariant-loop-k l =
    plan_end (problem_in l.self.compact.now) [] (count_up l.self.compact.now.count 0) (start_at l.self.starts.now)
    ≡ max l.end (plan_end (problem_in l.self.compact.now) [] (count_up (l.self.compact.now.count - l.k) l.k) (start_at l.self.starts.now))
