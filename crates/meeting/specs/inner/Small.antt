-- The problem that a request made small poses, and what its numbers keep.
use Rattle.std.specs.Prelude.{ℕ, ◌≤◌, ◌<◌, ◌≡◌, get_or}
use Rattle.theory.specs.Problem.{Problem}
use Rattle.request.specs.View.{View}
use Rattle.request.specs.Sound.{SoundRequest}
use Rattle.request.specs.inner.Limits.{Limits}
use Rattle.meeting.specs.declared.Compact.{Compact}
use Rattle.meeting.specs.Compact.{share_bit, compact_of}

-- demands go by listing position: those whose words have a bit in common share a link, and the guard is kept between them
unfoldable pub problem_in : Compact → Problem
unfolding share_bit
problem_in c =
    record {
      width = λ i. get_or c.widths i 0;
      joined = λ i j. share_bit (get_or c.words i 0) (get_or c.words j 0);
      gap = λ i j. c.guard;
    }

-- these are the numbers of a sound request
pub record Compacted (v : View) (c : Compact) : Type 0 where
  pub sound : SoundRequest v
  pub limits : Limits v
  pub is : c ≡ compact_of v

-- the limits of a sound request, and that no word stands behind its last demand
pub record Small (c : Compact) : Type 0 where
  pub some_slot : 1 ≤ c.slots
  pub most_slots : c.slots ≤ 384
  pub most_guard : c.guard ≤ 8
  pub most_demands : c.count ≤ 200
  pub some_width : (i : ℕ) → i < c.count → 1 ≤ get_or c.widths i 0
  pub width_in_band : (i : ℕ) → get_or c.widths i 0 ≤ c.slots
  pub no_word : (i : ℕ) → c.count ≤ i → get_or c.words i 0 ≡ 0
