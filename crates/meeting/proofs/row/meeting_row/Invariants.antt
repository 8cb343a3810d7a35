use Rattle.std.proofs.Common.{ℕ, Bool, false, map, take}
use Rattle.request.specs.View.{view_demand, demand_at}
use Rattle.request.specs.Sharing.{share_link}
use Rattle.meeting.specs.inner.Filling.{FilledTo}
use Rattle.meeting.proofs.row.meeting_row.Given as goal

abbrev pub invariant-loop-j : goal.invariant-loop-j
invariant-loop-j l =
    let demands = map view_demand (take l.fn.count l.fn.demands) in
    FilledTo Bool (λ (k : ℕ). share_link (demand_at demands k).route (demand_at demands l.fn.i).route) false 200 l.j l.row
