use Rattle.std.proofs.Common.{◌≡◌, [], take, drop}
use Rattle.placing.specs.FirstFit.{check_entries}
use Rattle.meeting.specs.inner.Meeting.{MarksOf}
use Rattle.placing.proofs.order.check_entries.Given as goal

abbrev pub invariant-loop-k : goal.invariant-loop-k
invariant-loop-k l =
    (check_entries l.count (take l.k l.order) l.k (drop l.k l.order) ≡ check_entries l.count [] 0 l.order) × MarksOf 200 (take l.k l.order) l.seen
