-- A group order, written out demand by demand.
use Prim.Native.Nat.{ℕ, suc, ◌+◌, ◌-◌, ◌≤◌, ◌<◌}
use mathlib.Core.List.{List, [], ◌∷◌, ◌++◌, append_assoc, append-nil}
use Rattle.std.specs.Prelude.{◌≡◌, refl, get_or, set}
use Rattle.std.proofs.Math.Path.{sym, ap, ap₂}
use Rattle.std.proofs.Common.{◌∙◌, add-one, take-suc-set, drop-cons}
use native.Mathlib.Omega.{arith}
use Rattle.std.proofs.Math.ListN.{length, take, drop, length-append, drop_of_length-le}
use Rattle.theory.specs.Arrange.{Arrange}
use Rattle.theory.proofs.ArrangeLaws.{arrange_mem, arrange_length}
use Rattle.theory.specs.Orders.{count_up, listing}
use Rattle.theory.proofs.ListingLaws.{count_up-length, count_up_last, listing_length, listing_below}
use Rattle.theory.specs.Groups.{group_size, group_start, group, members}
use Rattle.theory.proofs.GroupsLaws.{group_next, groups_whole, starts_below, members_arrange}
use Rattle.placing.proofs.OrderLaws.{get_or_mem}
use Rattle.groups.specs.inner.Table.{GroupStarts}
use Rattle.groups.specs.inner.Members.{Filled, WrittenTo}

-- nothing is counted up yet
pub counted_none : (along : List ℕ) (at first : ℕ) → take (at + 0) along ≡ take at along ++ count_up 0 first
unfolding count_up
counted_none along at first =
    ap (λ (n : ℕ). take n along) (let e : at + 0 ≡ at = omega arith in e) ∙ sym (append-nil (take at along))

-- one more number is counted up
pub counted_more : (along before : List ℕ) (at first k : ℕ) → at + k < length along → take (at + k) along ≡ before ++ count_up k first →
    take (at + (k + 1)) (set along (at + k) (first + k)) ≡ before ++ count_up (k + 1) first
counted_more along before at first k room is =
    ap (λ (n : ℕ). take n (set along (at + k) (first + k))) (let e : at + (k + 1) ≡ suc (at + k) = omega arith in e)
    ∙ take-suc-set along (at + k) (first + k) room
    ∙ ap (λ (l : List ℕ). l ++ ((first + k) ∷ [])) is
    ∙ append_assoc before (count_up k first) ((first + k) ∷ [])
    ∙ ap (λ (l : List ℕ). before ++ l) (sym (count_up_last k first) ∙ ap (λ (n : ℕ). count_up n first) (sym (add-one k)))

-- the next number counted up
count_next : (to i : ℕ) → i < to → count_up (to - i) i ≡ i ∷ count_up (to - (i + 1)) (i + 1)
unfolding count_up
count_next to i h =
    ap (λ (n : ℕ). count_up n i) (let e : to - i ≡ suc (to - (i + 1)) = omega arith in e)
    ∙ ap (λ (n : ℕ). i ∷ count_up (to - (i + 1)) n) (sym (add-one i))

-- one more number is written: what stands, and what is still to come, are together what they were
pub put_more : (along : List ℕ) (k to i : ℕ) → k < length along → i < to →
    take (k + 1) (set along k i) ++ count_up (to - (i + 1)) (i + 1) ≡ take k along ++ count_up (to - i) i
put_more along k to i room h =
    ap (λ (n : ℕ). take n (set along k i) ++ rest) (add-one k)
    ∙ ap (λ (l : List ℕ). l ++ rest) (take-suc-set along k i room)
    ∙ append_assoc (take k along) (i ∷ []) rest
    ∙ ap (λ (l : List ℕ). take k along ++ l) (sym (count_next to i h))
  where
    rest : List ℕ
    rest = count_up (to - (i + 1)) (i + 1)

-- all are written
pub put_all : (along whole : List ℕ) (k n to i : ℕ) → k ≡ n → to ≤ i → take k along ++ count_up (to - i) i ≡ whole → take n along ≡ whole
unfolding count_up
put_all along whole k n to i at_end done is =
    ap (λ (j : ℕ). take j along) (sym at_end)
    ∙ sym (append-nil (take k along))
    ∙ ap (λ (j : ℕ). take k along ++ count_up j i) (let e : 0 ≡ to - i = omega arith in e)
    ∙ is

-- an order of all groups has their numbers, and its demands are all demands
pub arranged_filled : (K M : ℕ) (order : List ℕ) → 1 ≤ M → Arrange order (listing M) → Filled K order
arranged_filled K M order some arranged =
    record {
      numbers =
          λ k h.
          omega (
            arith,
            long,
            listing_below M (get_or order k 0)
                (arrange_mem order (listing M) arranged (get_or order k 0) (get_or_mem order k h)),
          );
      whole =
          ap (λ (n : ℕ). length (members K n order)) long
          ∙ arrange_length (members K M order) (listing K) (members_arrange K M order some arranged)
          ∙ listing_length K;
    }
  where
    long : length order ≡ M
    long = arrange_length order (listing M) arranged ∙ listing_length M

-- nothing is written
pub written_none : (K : ℕ) (order first along : List ℕ) → Filled K order → GroupStarts K (length order) first → length along ≡ 200 →
    WrittenTo K order first along 0 0
written_none K order first along filled starts full =
    record {
      filled = filled;
      starts = starts;
      full = full;
      groups = omega arith;
      left = omega (arith, filled.whole);
      stand = refl;
    }

module _ {K : ℕ} {order first along : List ℕ} {at k : ℕ} (so_far : WrittenTo K order first along at k) where
  abbrev M : ℕ
  M = length order

  -- all groups are written
  pub written_all : M ≤ k → take K along ≡ members K M order
  unfolding members
  written_all done =
      ap (λ (n : ℕ). take n along) (sym all_at)
      ∙ sym (append-nil (take at along))
      ∙ ap (λ (l : List ℕ). take at along ++ members K M l) (sym none)
      ∙ so_far.stand
    where
      none : drop k order ≡ []
      none = drop_of_length-le order {i = k} done

      all_at : at ≡ K
      all_at = omega (arith, so_far.left, ap (λ (l : List ℕ). length (members K M l)) none)

  -- the next group, where it begins and where it ends
  module _ (more : k < M) (next : ℕ) (is : next ≡ get_or order k 0) where
    abbrev from : ℕ
    from = get_or first next 0

    abbrev to : ℕ
    to = get_or first (next + 1) 0

    pub next_number : next < M
    next_number = omega (arith, is, so_far.filled.numbers k more)

    next_from : from ≡ group_start K M next
    next_from = so_far.starts.begins next (omega (arith, next_number))

    next_to : to ≡ group_start K M (next + 1)
    next_to = so_far.starts.begins (next + 1) (omega (arith, next_number))

    -- so many demands it has
    next_size : to - from ≡ group_size K M next
    next_size = omega (arith, next_from, next_to, group_next K M next, ap (group_start K M) (add-one next))

    -- it ends no lower than it begins, and no higher than the demands do
    pub next_rises : from ≤ to
    next_rises = omega (arith, next_from, next_to, starts_below K M next (next + 1) (omega arith))

    pub next_within : to ≤ K
    next_within =
        omega (arith, next_to, next_number, starts_below K M (next + 1) M (omega (arith, next_number)), groups_whole K M (omega arith))

    -- the demands still to be written are its own, then those of the groups behind it
    next_members : members K M (drop k order) ≡ group K M next ++ members K M (drop (k + 1) order)
    unfolding members
    next_members =
        ap (members K M)
        (drop-cons order k 0 more ∙ ap₂ (λ (g n : ℕ). g ∷ drop n order) (sym is) (sym (add-one k)))

    -- those behind it, once its own are written
    pub next_left : (at + (to - from)) + length (members K M (drop (k + 1) order)) ≡ K
    unfolding group
    next_left =
        omega (
          arith,
          so_far.left,
          next_size,
          ap (λ (l : List ℕ). length l) next_members,
          count_up-length (group_size K M next) (group_start K M next),
          length-append (group K M next) (members K M (drop (k + 1) order)),
        )

    -- one more group is written
    pub written_more : (after : List ℕ) → length after ≡ 200 → take (at + (to - from)) after ≡ take at along ++ count_up (to - from) from →
        WrittenTo K order first after (at + (to - from)) (k + 1)
    unfolding group
    written_more after full put =
        record {
          filled = so_far.filled;
          starts = so_far.starts;
          full = full;
          groups = omega arith;
          left = next_left;
          stand =
              ap (λ (l : List ℕ). l ++ rest) (put ∙ ap (λ (l : List ℕ). take at along ++ l) (ap₂ count_up next_size next_from))
              ∙ append_assoc (take at along) (group K M next) rest
              ∙ ap (λ (l : List ℕ). take at along ++ l) (sym next_members)
              ∙ so_far.stand;
        }
      where
        rest : List ℕ
        rest = members K M (drop (k + 1) order)
