use Rattle.std.proofs.Common.{◌≡◌}
use Rattle.request.specs.View.{View}
use Rattle.meeting.specs.Bound.{bound_over}
use Rattle.meeting.specs.inner.Small.{Compacted}
use Rattle.meeting.proofs.need.largest_need.Given as goal

abbrev pub invariant-loop-link : goal.invariant-loop-link
invariant-loop-link l = (v : View) → Compacted v l.compact → l.most ≡ bound_over v l.link
