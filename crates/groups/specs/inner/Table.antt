-- What the walk asks of a request, as arrays.
use Rattle.std.specs.Prelude.{ℕ, ◌≤◌, Bool, false, List, [], ◌≡◌, length, get_or}
use Rattle.theory.specs.Groups.{group_start}
use Rattle.meeting.specs.Compact.{share_bit}

-- a table that says of any two numbers whether their words have a bit in common
pub record MeetingTable (words : List ℕ) (table : List (List Bool)) : Type 0 where
  pub entry : (i j : ℕ) → get_or (get_or table i []) j false ≡ share_bit (get_or words i 0) (get_or words j 0)

-- an array of where the groups begin, and where the last one ends
pub record GroupStarts (K M : ℕ) (first : List ℕ) : Type 0 where
  pub full : length first ≡ 9
  pub begins : (g : ℕ) → g ≤ M → get_or first g 0 ≡ group_start K M g
