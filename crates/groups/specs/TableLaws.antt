-- The arrays that the walk asks of a request: a row of who meets whom for each demand, and where the groups begin.
use Prim.Native.Nat.{ℕ, suc, ◌+◌, ◌/◌, ◌%◌, ◌≤◌, ◌<◌}
use Rattle.std.specs.Prelude.{Bool, false, List, [], map, ◌≡◌, refl, length, set, replicate}
use Rattle.std.proofs.Math.Bool.{cond}
use Rattle.std.proofs.Common.{⊎_elim, subst, ◌∙◌, arith, div-add-mod', le-mul_of_pos_right, get_or-set_same, get_or-set_other, lt-ltb, le-ltb}
use Rattle.std.proofs.Math.Path.{sym, ap, fun_ext}
use Rattle.std.proofs.Math.ListN.{get_or, get_or-eq_default}
use Rattle.std.proofs.lemmas.List.{length-map}
use Rattle.theory.specs.Orders.{listing}
use Rattle.theory.proofs.ListingLaws.{listing_length}
use Rattle.theory.proofs.TriedLaws.{below_or_not}
use Rattle.theory.specs.Groups.{group_size, group_start}
use Rattle.theory.proofs.GroupsLaws.{group_next, groups_whole, starts_below}
use Rattle.meeting.specs.declared.Compact.{Compact}
use Rattle.meeting.specs.Compact.{share_bit, word_row}
use Rattle.meeting.specs.CompactLaws.{filled_whole, nobody_behind, bit_swap, row_empty, bit_entry}
use Rattle.meeting.specs.MeetingLaws.{listing_at}
use Rattle.meeting.specs.inner.Filling.{FilledTo}
use Rattle.meeting.specs.inner.Small.{problem_in}
use Rattle.search.specs.inner.Arrays.{problem_of}
use Rattle.groups.specs.inner.Table.{MeetingTable}

module _ (words : List ℕ) (few : length words ≤ 200) where
  -- a row for each of 200 words says of any two numbers what the words say: behind them there is none
  rows_say : (i j : ℕ) → get_or (get_or (map (word_row words) (listing 200)) i []) j false ≡ share_bit (get_or words i 0) (get_or words j 0)
  rows_say i j =
      ⊎_elim
      (λ (low : i < 200).
      ap (λ (row : List Bool). get_or row j false) (listing_at (word_row words) 200 i [] low)
      ∙ bit_entry words i j few ∙ bit_swap (get_or words j 0) (get_or words i 0))
      (λ (high : 200 ≤ i).
      ap (λ (row : List Bool). get_or row j false)
      (get_or-eq_default (map (word_row words) (listing 200)) [] {n = i} (omega (arith, length-map (listing 200) (word_row words), listing_length 200)))
      ∙ sym (nobody_behind words i (get_or words j 0) (omega arith)))
      (below_or_not i 200)

  -- so does a table with the rows of all demands, where the others have no word
  pub table_whole : (K : ℕ) (table : List (List Bool)) → ((i : ℕ) → K ≤ i → get_or words i 0 ≡ 0) →
      FilledTo (List Bool) (word_row words) (replicate 200 false) 200 K table → MeetingTable words table
  table_whole K table behind so_far =
      record {
        entry = λ (i j : ℕ).
            ap (λ (t : List (List Bool)). get_or (get_or t i []) j false)
            (filled_whole (List Bool) (word_row words) (replicate 200 false) 200 K table so_far (λ k h l. sym (row_empty words k (behind k h))))
            ∙ rows_say i j;
      }

module _ (c : Compact) (table : List (List Bool)) (meets : MeetingTable c.words table) where
  -- such a table reads alike both ways
  pub table_two_way : (i j : ℕ) → get_or (get_or table i []) j false ≡ get_or (get_or table j []) i false
  table_two_way i j = meets.entry i j ∙ bit_swap (get_or c.words i 0) (get_or c.words j 0) ∙ sym (meets.entry j i)

  -- with the widths it is the problem posed
  pub table_problem : problem_of table c.widths c.guard ≡ problem_in c
  unfolding problem_of problem_in
  table_problem =
      ap (λ (j : ℕ → ℕ → Bool). record { width = λ (i : ℕ). get_or c.widths i 0; joined = j; gap = λ (i j : ℕ). c.guard })
      (fun_ext (λ (i : ℕ). fun_ext (meets.entry i)))

module _ (K M g : ℕ) where
  -- one of the first groups has one more
  pub size_longer : g < K % M → K / M + 1 ≡ group_size K M g
  unfolding group_size
  size_longer h = sym (ap (λ (b : Bool). K / M + cond b 1 0) (lt-ltb g (K % M) h))

  -- and where some have one more, that is still no more than there are demands
  pub longer_fits : 1 ≤ M → g < K % M → K / M + 1 ≤ K
  longer_fits some h = omega (arith, div-add-mod' K M, le-mul_of_pos_right (K / M) some)

  -- the others have not
  pub size_even : K % M ≤ g → K / M ≡ group_size K M g
  unfolding group_size
  size_even h = sym (ap (λ (b : Bool). K / M + cond b 1 0) (le-ltb g (K % M) h) ∙ omega arith)

-- a group ends where all demands do, or before
pub ends_within : (K M g : ℕ) → g < M → group_start K M g + group_size K M g ≤ K
ends_within K M g h =
    omega (arith, group_next K M g, starts_below K M (suc g) M (omega arith), groups_whole K M (omega arith))

-- at first only group 0 begins
pub starts_none : (K M : ℕ) (k : ℕ) → k ≤ 0 → get_or (replicate 9 0) k 0 ≡ group_start K M k
unfolding group_start
starts_none K M k h = subst (λ (n : ℕ). get_or (replicate 9 0) n 0 ≡ group_start K M n) (let e : 0 ≡ k = omega arith in e) refl

-- one more beginning
pub starts_more : (K M : ℕ) (first : List ℕ) (g next : ℕ) → g + 1 < length first → next ≡ get_or first g 0 + group_size K M g →
    ((k : ℕ) → k ≤ g → get_or first k 0 ≡ group_start K M k) → (k : ℕ) → k ≤ g + 1 → get_or (set first (g + 1) next) k 0 ≡ group_start K M k
starts_more K M first g next room is so_far k h =
    ⊎_elim
    (λ (low : k < g + 1). get_or-set_other first (g + 1) k next 0 (λ e. omega arith) ∙ so_far k (omega arith))
    (λ (high : g + 1 ≤ k).
    let same : suc g ≡ k = omega arith in
    let at : g + 1 ≡ k = omega arith in
    subst (λ (n : ℕ). get_or (set first (g + 1) next) n 0 ≡ next) at (get_or-set_same first (g + 1) next 0 room)
    ∙ is ∙ ap (λ (n : ℕ). n + group_size K M g) (so_far g (omega arith))
    ∙ sym (group_next K M g) ∙ ap (group_start K M) same)
    (below_or_not k (g + 1))
