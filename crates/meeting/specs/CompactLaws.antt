-- A request made small: its arrays, and the problem that it poses.
use Prim.Native.Nat.{ℕ, ◌+◌, ◌≤◌, ◌<◌}
use Rattle.std.specs.Prelude.{Bool, true, false, not, ◌≡◌, length, get_or, replicate, ltb, eqb}
use mathlib.Core.List.{List, [], map}
use Rattle.std.proofs.Math.Path.{refl, ap₂, fun_ext}
use Rattle.std.proofs.Common.{sym, ap, ◌∙◌, ext_get_or}
use native.Mathlib.Omega.{arith}
use Rattle.std.specs.Int.Bits.{and_zero_r}
use Rattle.std.proofs.lemmas.Nat.{and_comm}
use Rattle.std.proofs.lemmas.List.{length-map}
use Rattle.std.proofs.Math.ListN.{get_or-eq_default}
use borrow.Author.Tests.{ltb-true, ltb-false}
use Rattle.theory.specs.Orders.{listing}
use Rattle.theory.proofs.ListingLaws.{listing_length}
use Rattle.theory.proofs.TestLaws.{by_test}
use Rattle.theory.specs.Problem.{Problem}
use Rattle.request.specs.View.{View, DemandView, demand_at, no_demand, width_of}
use Rattle.request.specs.Sound.{SoundRequest}
use Rattle.request.specs.Check.{has}
use Rattle.request.specs.Sharing.{share_link, problem_of}
use Rattle.request.specs.inner.Limits.{Limits}
use Rattle.meeting.specs.declared.Compact.{Compact}
use Rattle.meeting.specs.AskedLaws.{demand_none}
use Rattle.meeting.specs.Compact.{link_bit, word_of, share_bit, widths_of, words_of, compact_of, word_row}
use Rattle.meeting.specs.WordLaws.{all_low_lem, share_word, word_of_lem, on_word}
use Rattle.meeting.specs.inner.Need.{NeedTo}
use Rattle.meeting.specs.NeedLaws.{need_on, need_off}
use Rattle.meeting.specs.inner.Small.{problem_in, Compacted, Small}
use Rattle.meeting.specs.inner.Word.{all_low}
use Rattle.meeting.specs.inner.Filling.{FilledTo}
use Rattle.meeting.specs.FillingLaws.{filled_none, filled_entry, unfilled_entry}
use Rattle.meeting.specs.MeetingLaws.{listing_at}

-- an array filled as far as f says more than the start is f's, whole
pub filled_whole : (A : Type 0) (f : ℕ → A) (start : A) (n j : ℕ) (array : List A) → FilledTo A f start n j array →
    ((k : ℕ) → j ≤ k → k < n → f k ≡ start) → array ≡ map f (listing n)
filled_whole A f start n j array so_far behind =
    ext_get_or start array (map f (listing n)) (so_far.full ∙ sym (length-map (listing n) f ∙ listing_length n))
    (λ k h.
    by_test (ltb k j)
    (λ t. filled_entry A f start n j array so_far k (omega (arith, so_far.full)) (ltb-true k j t))
    (λ t.
    unfilled_entry A f start n j array so_far k (omega (arith, so_far.full)) (ltb-false k j t)
    ∙ sym (behind k (ltb-false k j t) (omega (arith, so_far.full))))
    ∙ sym (listing_at f n k start (omega (arith, so_far.full))))

-- what is no demand has no width
pub width_behind : (v : View) (k : ℕ) → length v.demands ≤ k → width_of (demand_at v.demands k) ≡ 0
unfolding no_demand width_of
width_behind v k h = rw (demand_none v.demands k h)

-- and no word
pub word_behind : (v : View) (k : ℕ) → length v.demands ≤ k → word_of (demand_at v.demands k).route ≡ 0
unfolding no_demand word_of
word_behind v k h = rw (demand_none v.demands k h)

-- there is no word behind the last
pub nobody_behind : (words : List ℕ) (k word : ℕ) → length words ≤ k → share_bit (get_or words k 0) word ≡ false
unfolding share_bit
nobody_behind words k word h = rw (get_or-eq_default words 0 {n = k} h)

-- two words have the same bits in common, whichever is named first
pub bit_swap : (a b : ℕ) → share_bit a b ≡ share_bit b a
unfolding share_bit
bit_swap a b = ap (λ (n : ℕ). not (eqb n 0)) (and_comm a b)

-- nobody has a bit in common with a word of none
pub row_empty : (words : List ℕ) (i : ℕ) → get_or words i 0 ≡ 0 → replicate 200 false ≡ word_row words i
unfolding word_row share_bit
row_empty words i none =
    filled_whole Bool (λ (j : ℕ). share_bit (get_or words j 0) (get_or words i 0)) false 200 0 (replicate 200 false)
    (filled_none Bool (λ (j : ℕ). share_bit (get_or words j 0) (get_or words i 0)) false 200)
    (λ k h l. rw (none, and_zero_r (get_or words k 0)))

module _ (v : View) (few : length v.demands ≤ 200) where
  -- what is made of each demand, read at a listing position: behind the last it is 0
  listed_at : (f : DemandView → ℕ) → f no_demand ≡ 0 → (i : ℕ) →
      get_or (map (λ (k : ℕ). f (demand_at v.demands k)) (listing 200)) i 0 ≡ f (demand_at v.demands i)
  listed_at f none i =
      by_test (ltb i 200)
      (λ t. listing_at (λ (k : ℕ). f (demand_at v.demands k)) 200 i 0 (ltb-true i 200 t))
      (λ t.
      get_or-eq_default (map (λ (k : ℕ). f (demand_at v.demands k)) (listing 200)) 0 {n = i}
      (omega (arith, ltb-false i 200 t, length-map (listing 200) (λ (k : ℕ). f (demand_at v.demands k)), listing_length 200))
      ∙ sym (ap f (demand_none v.demands i (omega (arith, ltb-false i 200 t))) ∙ none))

  -- the width of a demand
  pub width_at : (i : ℕ) → get_or (widths_of v) i 0 ≡ width_of (demand_at v.demands i)
  unfolding widths_of width_of no_demand
  width_at i = listed_at width_of refl i

  -- the word of its route
  pub word_at : (i : ℕ) → get_or (words_of v) i 0 ≡ word_of (demand_at v.demands i).route
  unfolding words_of word_of no_demand
  word_at i = listed_at (λ (d : DemandView). word_of d.route) refl i

module _ (v : View) (sound : SoundRequest v) (limits : Limits v) where
  -- a route of a sound request has no link of 64 or more
  routes_low : (j : ℕ) → all_low (demand_at v.demands j).route ≡ true
  unfolding no_demand
  routes_low j =
      by_test (ltb j v.demand_count)
      (λ t.
      let h = ltb-true j v.demand_count t in
      all_low_lem (demand_at v.demands j).route
      (λ p l. omega (arith, (sound.demands_sound j h).links_listed p (omega (arith, limits.routes_there j h)), limits.most_links)))
      (λ t. rw (demand_none v.demands j (omega (arith, limits.demands_there, ltb-false j v.demand_count t))) (all_low_lem [] (λ p l. absurd (omega arith))))

  few_listed : length v.demands ≤ 200
  few_listed = omega (arith, limits.demands_there, limits.most_demands)

  -- two demands share a link where their words have a bit in common
  words_tell : (i j : ℕ) → share_bit (get_or (words_of v) i 0) (get_or (words_of v) j 0)
      ≡ share_link (demand_at v.demands i).route (demand_at v.demands j).route
  words_tell i j =
      rw (word_at v few_listed i, word_at v few_listed j)
      (share_word (demand_at v.demands i).route (demand_at v.demands j).route _ _ (word_of_lem _) (word_of_lem _) (routes_low j))

  -- a sound request made small poses the same problem
  pub small_problem : problem_in (compact_of v) ≡ problem_of v
  unfolding problem_in compact_of problem_of
  small_problem =
      let posed : (ℕ → ℕ) → (ℕ → ℕ → Bool) → Problem = λ w s. record { width = w; joined = s; gap = λ i j. v.band.guard } in
      ap₂ posed
      (fun_ext (λ i. width_at v few_listed i))
      (fun_ext (λ i. fun_ext (λ j. words_tell i j)))

  -- and keeps its limits
  pub small : Small (compact_of v)
  unfolding compact_of
  small =
      record {
        some_slot = limits.some_slot;
        most_slots = limits.most_slots;
        most_guard = limits.most_guard;
        most_demands = limits.most_demands;
        some_width = λ i h. omega (arith, width_at v few_listed i, (sound.demands_sound i h).some_width);
        width_in_band = λ i.
            by_test (ltb i v.demand_count)
            (λ t. omega (arith, width_at v few_listed i, (sound.demands_sound i (ltb-true i v.demand_count t)).width_in_band))
            (λ t.
            omega (
              arith,
              width_at v few_listed i,
              width_behind v i (omega (arith, limits.demands_there, ltb-false i v.demand_count t)),
            ));
        no_word = λ i h. word_at v few_listed i ∙ word_behind v i (omega (arith, limits.demands_there));
      }

-- an entry of a row says whether two words have a bit in common
pub bit_entry : (words : List ℕ) (i j : ℕ) → length words ≤ 200 →
    get_or (word_row words i) j false ≡ share_bit (get_or words j 0) (get_or words i 0)
unfolding word_row
bit_entry words i j few =
    by_test (ltb j 200)
    (λ t. listing_at (λ (k : ℕ). share_bit (get_or words k 0) (get_or words i 0)) 200 j false (ltb-true j 200 t))
    (λ t.
    get_or-eq_default (map (λ (k : ℕ). share_bit (get_or words k 0) (get_or words i 0)) (listing 200)) false {n = j}
    (omega (arith, ltb-false j 200 t, length-map (listing 200) (λ (k : ℕ). share_bit (get_or words k 0) (get_or words i 0)), listing_length 200))
    ∙ sym (nobody_behind words j (get_or words i 0) (omega (arith, ltb-false j 200 t))))

-- so it says whether two demands share a link
pub word_entry : (c : Compact) (i j : ℕ) → length c.words ≤ 200 → get_or (word_row c.words i) j false ≡ (problem_in c).joined j i
unfolding problem_in
word_entry c i j few = bit_entry c.words i j few

-- two results of the calls are equal
pub same_compact : (v : View) (a b : Compact) → a ≡ compact_of v → b ≡ compact_of v → a ≡ b
same_compact v a b ha hb = ha ∙ sym hb

pub same_bit : (word other : ℕ) (a b : Bool) → a ≡ share_bit word other → b ≡ share_bit word other → a ≡ b
same_bit word other a b ha hb = ha ∙ sym hb

pub same_word_row : (words : List ℕ) (i : ℕ) (a b : List Bool) → a ≡ word_row words i → b ≡ word_row words i → a ≡ b
same_word_row words i a b ha hb = ha ∙ sym hb

module _ (v : View) (c : Compact) (held : Compacted v c) where
  -- a request made small counts its demands
  pub counted : length v.demands ≡ c.count
  unfolding compact_of
  counted = rw held.is held.limits.demands_there

  -- tells their widths
  width_held : (j : ℕ) → get_or c.widths j 0 ≡ width_of (demand_at v.demands j)
  unfolding compact_of
  width_held j = rw held.is (width_at v (few_listed v held.sound held.limits) j)

  -- and who is on a link
  on_held : (link j : ℕ) → link < 64 → share_bit (get_or c.words j 0) (link_bit link) ≡ has link (demand_at v.demands j).route
  unfolding compact_of
  on_held link j low =
      rw (held.is, word_at v (few_listed v held.sound held.limits) j) (on_word (demand_at v.demands j).route link low)

  module _ (link j widths users : ℕ) (low : link < 64) (h : j < c.count) (so_far : NeedTo v link j widths users) where
    -- one that is counts
    pub small_on : (more with_it : ℕ) → share_bit (get_or c.words j 0) (link_bit link) ≡ true → get_or c.widths j 0 < 65536 →
        more ≡ widths + get_or c.widths j 0 → with_it ≡ users + 1 → NeedTo v link (j + 1) more with_it
    small_on more with_it on fits e u =
        need_on v link j widths users (omega (arith, counted)) so_far more with_it (sym (on_held link j low) ∙ on)
        (omega (arith, width_held j)) (omega (arith, width_held j)) u

    -- another does not
    pub small_off : (same as_many : ℕ) → share_bit (get_or c.words j 0) (link_bit link) ≡ false → same ≡ widths → as_many ≡ users →
        NeedTo v link (j + 1) same as_many
    small_off same as_many off e u =
        need_off v link j widths users (omega (arith, counted)) so_far same as_many (sym (on_held link j low) ∙ off) e u
