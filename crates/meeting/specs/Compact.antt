-- A request made small: its widths, and each route as one word.
use Rattle.std.specs.Prelude.{ℕ, ◌*◌, ◌^◌, Bool, not, cond, List, [], ◌∷◌, map, eqb, ltb, get_or}
use Rattle.std.specs.Int.Bits.{bit_and, bit_or}
use Rattle.theory.specs.Orders.{listing}
use Rattle.request.specs.View.{View, demand_at, width_of}
use Rattle.meeting.specs.declared.Compact.{Compact}

-- the word of one link alone: 2 to its number; a link of 64 or more has no bit
unfoldable pub link_bit : ℕ → ℕ
link_bit link = cond (ltb link 64) (1 * 2 ^ link) 0

-- the word of a route: the bits of its links
unfoldable pub word_of : List ℕ → ℕ
unfolding link_bit
word_of [] = 0
word_of (link ∷ route) = bit_or (link_bit link) (word_of route)

-- two words have a bit in common
unfoldable pub share_bit : ℕ → ℕ → Bool
share_bit a b = not (eqb (bit_and a b) 0)

-- the widths of the demands by listing position, 200 of them, 0 behind the last
unfoldable pub widths_of : View → List ℕ
unfolding listing
widths_of v = map (λ (i : ℕ). width_of (demand_at v.demands i)) (listing 200)

-- the words of their routes, likewise
unfoldable pub words_of : View → List ℕ
unfolding word_of listing
words_of v = map (λ (i : ℕ). word_of (demand_at v.demands i).route) (listing 200)

-- a request made small
unfoldable pub compact_of : View → Compact
unfolding widths_of words_of
compact_of v = record { slots = v.band.slots; guard = v.band.guard; count = v.demand_count; widths = widths_of v; words = words_of v }

-- whose words have a bit in common with the word at a place
unfoldable pub word_row : List ℕ → ℕ → List Bool
unfolding share_bit listing
word_row words i = map (λ (j : ℕ). share_bit (get_or words j 0) (get_or words i 0)) (listing 200)
