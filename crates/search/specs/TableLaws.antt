-- The table of a search is the problem that its words and widths pose.
use Prim.Native.Nat.{ℕ, ◌≤◌, ◌<◌}
use Rattle.std.proofs.Math.Bool.{Bool, false}
use mathlib.Core.List.{List, [], map}
use Rattle.std.proofs.Common.{⊎_elim, sym, ◌∙◌, arith, ext_get_or}
use Rattle.std.specs.Prelude.{◌≡◌}
use Rattle.std.proofs.Math.Path.{ap, fun_ext}
use Rattle.std.proofs.Math.ListN.{get_or, length, length-map, get_or-eq_default}
use Rattle.theory.specs.Orders.{listing}
use Rattle.theory.proofs.ListingLaws.{listing_length}
use Rattle.theory.proofs.TriedLaws.{below_or_not}
use Rattle.meeting.specs.declared.Compact.{Compact}
use Rattle.meeting.specs.Compact.{share_bit}
use Rattle.meeting.specs.CompactLaws.{bit_swap}
use Rattle.meeting.specs.MeetingLaws.{listing_at}
use Rattle.meeting.specs.inner.Small.{problem_in, Small}
use Rattle.search.specs.inner.Arrays.{problem_of}
use Rattle.search.specs.inner.Kept.{Sized}
use Rattle.search.specs.inner.Table.{table_row, meeting_table}

-- a list of n entries, each of which is what is made of its place, is what is made of the listing positions
pub listed_all : {A : Type 0} (f : ℕ → A) (xs : List A) (n : ℕ) (none : A) → length xs ≡ n →
    ((k : ℕ) → k < n → get_or xs k none ≡ f k) → xs ≡ map f (listing n)
listed_all f xs n none long all =
    ext_get_or none xs (map f (listing n)) (long ∙ sym (length-map (listing n) f ∙ listing_length n))
    (λ k h. let low : k < n = omega arith in all k low ∙ sym (listing_at f n k none low))

module _ (words : List ℕ) where
  -- the row of the word at a place
  abbrev row_of : ℕ → List Bool
  row_of i = table_row words (get_or words i 0)

  -- an entry of the table says whether two words have a bit in common
  table_entry : (i j : ℕ) → i < 20 → j < 20 → get_or (get_or (meeting_table words) i []) j false ≡ share_bit (get_or words i 0) (get_or words j 0)
  unfolding meeting_table table_row
  table_entry i j hi hj =
      ap (λ (row : List Bool). get_or row j false) (listing_at row_of 20 i [] hi)
      ∙ listing_at (λ (k : ℕ). share_bit (get_or words i 0) (get_or words k 0)) 20 j false hj

  -- behind its last row and its last entry the table says no
  far_row : (i j : ℕ) → 20 ≤ i → get_or (get_or (meeting_table words) i []) j false ≡ false
  unfolding meeting_table
  far_row i j h =
      ap (λ (row : List Bool). get_or row j false)
      (get_or-eq_default (map row_of (listing 20)) [] {n = i} (omega (arith, length-map (listing 20) row_of, listing_length 20)))

  far_entry : (i j : ℕ) → i < 20 → 20 ≤ j → get_or (get_or (meeting_table words) i []) j false ≡ false
  unfolding meeting_table table_row
  far_entry i j h k =
      let f : ℕ → Bool = λ n. share_bit (get_or words i 0) (get_or words n 0) in
      ap (λ (row : List Bool). get_or row j false) (listing_at row_of 20 i [] h)
      ∙ get_or-eq_default (map f (listing 20)) false {n = j} (omega (arith, length-map (listing 20) f, listing_length 20))

-- a word of no bit has none in common with another
none_shared : (a b : ℕ) → a ≡ 0 → share_bit a b ≡ false
unfolding share_bit
none_shared a b none = rw none

module _ (c : Compact) (small : Small c) (few : c.count ≤ 20) where
  -- the table says of any two numbers what the words say: behind the twenty there is none
  joined_everywhere : (i j : ℕ) → get_or (get_or (meeting_table c.words) i []) j false ≡ share_bit (get_or c.words i 0) (get_or c.words j 0)
  joined_everywhere i j =
      let none : (a b : ℕ) → 20 ≤ a → share_bit (get_or c.words a 0) (get_or c.words b 0) ≡ false =
      λ a b far. none_shared (get_or c.words a 0) (get_or c.words b 0) (small.no_word a (omega arith)) in
      ⊎_elim
      (λ (hi : i < 20). ⊎_elim
      (λ (hj : j < 20). table_entry c.words i j hi hj)
      (λ (hj : 20 ≤ j). far_entry c.words i j hi hj ∙ sym (bit_swap (get_or c.words i 0) (get_or c.words j 0) ∙ none j i hj))
      (below_or_not j 20))
      (λ (hi : 20 ≤ i). far_row c.words i j hi ∙ sym (none i j hi))
      (below_or_not i 20)

  -- so the problem of the table and the widths is the one posed
  pub same_problem : problem_of (meeting_table c.words) c.widths c.guard ≡ problem_in c
  unfolding problem_of problem_in
  same_problem =
      ap (λ (j : ℕ → ℕ → Bool). record { width = λ (i : ℕ). get_or c.widths i 0; joined = j; gap = λ (i j : ℕ). c.guard })
      (fun_ext (λ (i : ℕ). fun_ext (λ (j : ℕ). joined_everywhere i j)))

  -- and has the sizes that the walk takes
  pub walk_sizes : Sized (meeting_table c.words) c.widths c.guard c.count
  walk_sizes =
      record {
        few = few;
        narrow = λ i h. omega (arith, small.width_in_band i, small.most_slots);
        guarded = small.most_guard;
        even = λ i j hi hj.
            joined_everywhere i j ∙ bit_swap (get_or c.words i 0) (get_or c.words j 0) ∙ sym (joined_everywhere j i);
      }
