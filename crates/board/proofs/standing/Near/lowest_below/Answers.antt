use Rattle.std.proofs.Common.{◌≡◌, ℕ, length, subst, ◌∙◌, arith}
use Rattle.theory.specs.inner.Scan.{next_start}
use Rattle.board.specs.Board.{number_rows}
use Rattle.board.specs.inner.Near.{near_problem}
use Rattle.board.specs.inner.Beside.{problem_near, rows_near}
use Rattle.board.specs.declared.standing.Near.{Near}
use Rattle.board.proofs.ScanLaws.{scan_at, scan_below, scan_fewer, next_start_lem, next_begun, next_later}
use Rattle.board.proofs.standing.Near.lowest_below.Goals as goal
use Rattle.board.proofs.standing.Near.lowest_below.Goals.{then-self-j, else-self-j}

pub loop-j-init : goal.loop-j-init
loop-j-init c = let near = c.args.self.now in next_start_lem near.past near.starts.now near.span c.scan.start

pub loop-j-preserved : goal.loop-j-preserved
loop-j-preserved c =
    let near = c.args.self.now in
    let turn = c.loop-j in
    elim c.if-self-j.branch [
      | then-self-j w ↦ w.next-is ∙ w.max-next.ensures ∙ next_begun near.past near.starts.now _ near.span near.blocks turn.j c.scan.start turn.next (omega arith) turn.invariant w.if-self-j.true
      | else-self-j w ↦ w.next-is ∙ next_later near.past near.starts.now _ near.span near.blocks turn.j c.scan.start turn.next (omega arith) turn.invariant w.if-self-j.false
    ]

-- all numbers are looked at
all_looked : (near : Near) (start next j : ℕ) → j ≡ length near.starts.now →
    next ≡ next_start (near_problem near.past near.starts.now near.span) (number_rows j near.starts.now) 200 start →
    next ≡ next_start (problem_near near) (rows_near near) 200 start
all_looked near start next j all looked =
    subst (λ (n : ℕ). next ≡ next_start (near_problem near.past near.starts.now near.span) (number_rows n near.starts.now) 200 start) all looked

pub scan-smaller : goal.scan-smaller
scan-smaller c =
    let near = c.args.self.now in
    scan_fewer (problem_near near) (rows_near near) 200 c.scan.start c.scan.invariant c.loop-j.next
    (all_looked near c.scan.start c.loop-j.next c.loop-j.j (omega arith) c.loop-j.invariant) c.if-next-start.false

pub scan-preserved : goal.scan-preserved
scan-preserved c =
    let near = c.args.self.now in
    scan_below (problem_near near) (rows_near near) 200 c.scan.start c.scan.invariant c.loop-j.next
    (all_looked near c.scan.start c.loop-j.next c.loop-j.j (omega arith) c.loop-j.invariant)

pub returns-then-next-start : goal.returns-then-next-start
returns-then-next-start c =
    let near = c.args.self.now in
    scan_at (problem_near near) (rows_near near) 200 c.scan.start c.scan.invariant c.loop-j.next
    (all_looked near c.scan.start c.loop-j.next c.loop-j.j (omega arith) c.loop-j.invariant)
    c.args.above c.if-above-start.false c.if-next-start.true
