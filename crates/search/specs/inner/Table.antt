-- The table of who meets whom among the first twenty demands, by their words.
use Rattle.std.specs.Prelude.{ℕ, Bool, List, map, get_or}
use Rattle.theory.specs.Orders.{listing}
use Rattle.meeting.specs.Compact.{share_bit}

-- which of the first twenty words have a bit in common with a word
unfoldable pub table_row : List ℕ → ℕ → List Bool
unfolding share_bit listing
table_row words word = map (λ (j : ℕ). share_bit word (get_or words j 0)) (listing 20)

-- which of the first twenty words have a bit in common: a row of twenty for each of the twenty
unfoldable pub meeting_table : List ℕ → List (List Bool)
unfolding table_row
meeting_table words = map (λ (i : ℕ). table_row words (get_or words i 0)) (listing 20)
