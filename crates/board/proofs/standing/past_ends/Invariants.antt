use Rattle.std.proofs.Common.{◌≡◌, length}
use Rattle.board.specs.inner.Near.{PastEnds}
use Rattle.board.proofs.standing.past_ends.Given as goal

abbrev pub invariant-loop-j : goal.invariant-loop-j
invariant-loop-j l = (length l.past ≡ 200) × PastEnds l.meets l.starts l.ends l.guard l.j l.past
