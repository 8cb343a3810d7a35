use Rattle.std.proofs.Common.{◌≡◌, ◌+◌, ◌*◌, ◌≤◌, drop}
use Rattle.request.specs.View.{view}
use Rattle.report.specs.Text.{appended}
use Rattle.report.specs.Rows.{rows}
use Rattle.report.proofs.Page.put_rows.Given as goal

abbrev pub invariant-loop-k : goal.invariant-loop-k
invariant-loop-k l =
    (l.self.len ≤ l.initial.self.len + 39 * l.k)
    × (appended l.self (rows l.request.band (drop l.k (view l.request).demands) (drop l.k l.starts)) ≡ appended l.initial.self (rows l.request.band (view l.request).demands l.starts))
