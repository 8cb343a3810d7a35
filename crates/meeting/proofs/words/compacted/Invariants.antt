use Rattle.std.proofs.Common.{ℕ}
use Rattle.request.specs.View.{view, demand_at, width_of}
use Rattle.meeting.specs.inner.Filling.{FilledTo}
use Rattle.meeting.specs.Compact.{word_of}
use Rattle.meeting.proofs.words.compacted.Given as goal

abbrev pub invariant-loop-j : goal.invariant-loop-j
invariant-loop-j l =
    record {
      widths_filled : FilledTo ℕ (λ (k : ℕ). width_of (demand_at (view l.fn.request).demands k)) 0 200 l.j l.widths;
      words_filled : FilledTo ℕ (λ (k : ℕ). word_of (demand_at (view l.fn.request).demands k).route) 0 200 l.j l.words;
    }
