use Rattle.std.specs.Prelude.{ℕ, Bool, false, get_or}
use Rattle.meeting.specs.inner.Filling.{FilledTo}
use Rattle.meeting.specs.Compact.{share_bit}
use Rattle.meeting.proofs.words.word_row.Given as goal

abbrev pub invariant-loop-j : goal.invariant-loop-j
invariant-loop-j l = FilledTo Bool (λ (k : ℕ). share_bit (get_or l.words k 0) l.word) false 200 l.j l.row
