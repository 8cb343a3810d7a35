use Rattle.std.proofs.Common.{◌≡◌, ◌-◌, length}
use Rattle.request.specs.View.{view}
use Rattle.planfile.specs.inner.PlanPacking.{RowsSoFar}
use Rattle.planfile.proofs.read.read_rows.Given as goal

abbrev pub invariant-loop-at : goal.invariant-loop-at
invariant-loop-at l = RowsSoFar (view l.fn.request) l.file l.at l.rows × (length l.rows ≡ 200)

abbrev pub decreases-loop-at : goal.decreases-loop-at
decreases-loop-at l = length l.file - l.at
