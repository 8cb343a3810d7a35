-- The walk over group orders from its start, and what its end says of the best of all group orders.
use Rattle.std.specs.Prelude.{ℕ, suc, ◌+◌, ◌-◌, ◌≤◌, ◌<◌, false, Some, None, refl, replicate}
use mathlib.Core.List.{List, [], ◌∷◌}
use Rattle.std.proofs.Math.Path.{◌≡◌, sym, ap}
use Rattle.std.proofs.Common.{subst, ap₂, ◌∙◌, arith}
use Rattle.theory.specs.Problem.{Problem, Row, top}
use Rattle.theory.proofs.ProblemLaws.{fill_nil, top_nil}
use Rattle.theory.specs.Orders.{listing, spread, orders_of, orders}
use Rattle.theory.proofs.ListingLaws.{listing_length}
use Rattle.theory.specs.Walk.{none_met, met}
use Rattle.theory.specs.Groups as theory
use Rattle.theory.specs.Groups.{members}
use Rattle.theory.proofs.GroupsLaws.{mark_of, lead_with, best_leads}
use Rattle.theory.proofs.GroupWalkLaws.{orders_spread, unmarked_listing}
use Rattle.theory.specs.inner.Grouped.{reach, below, unmarked}
use Rattle.theory.specs.inner.Tried.{Lead, try, lead_by, ends_at, Leads, unbeaten, taken}
use Rattle.theory.proofs.TriedLaws.{try_leads}
use Rattle.board.specs.inner.Standing.{Standing}
use Rattle.board.proofs.BesideLaws.{standing_none}
use Rattle.request.specs.View.{View}
use Rattle.request.specs.Sound.{SoundRequest}
use Rattle.request.specs.Sharing as sharing
use Rattle.request.specs.inner.Limits.{Limits}
use Rattle.meeting.specs.Compact.{compact_of}
use Rattle.meeting.specs.CompactLaws.{small_problem}
use Rattle.meeting.specs.inner.Small.{problem_in, Small}
use Rattle.groups.specs.declared.Grouped.{Grouped}
use Rattle.groups.specs.Reply.{best_reply, grouped}
use Rattle.groups.specs.declared.walk.Cut.{Cut}
use Rattle.groups.specs.declared.walk.Level.{Level}
use Rattle.groups.specs.WalkLaws.{none_anywhere}
use Rattle.groups.specs.inner.Table.{MeetingTable, GroupStarts}
use Rattle.groups.specs.inner.Walk.{posed, demands, Ready, Held, tried_from}

-- all orders below no path
below_none : (os : List (List ℕ)) → below [] os ≡ os
below_none [] = refl
below_none (o ∷ os) = ap (λ (l : List (List ℕ)). o ∷ l) (below_none os)

-- no group is placed: nothing stands
reach_none : (P : Problem) (K M : ℕ) → reach P K M [] ≡ []
unfolding members
reach_none P K M = fill_nil P []

-- so the walk may begin
abbrev pub no_level : Level
no_level =
    record {
      used = replicate 8 false;
      order = replicate 8 0;
      placed = 0;
      starts = replicate 200 0;
      ends = replicate 200 0;
      top = 0;
    }

module _ (cut : Cut) (small : Small cut.compact.now) where
  abbrev P : Problem
  P = posed cut

  abbrev S : ℕ
  S = cut.compact.now.slots

  abbrev K : ℕ
  K = demands cut

  abbrev M : ℕ
  M = cut.m

  pub start_ready : MeetingTable cut.compact.now.words cut.table.now → GroupStarts K M cut.first → M ≤ 8 → M ≤ K → Ready cut no_level
  start_ready meets begins few many =
      record {
        small = small;
        meets = meets;
        begins = begins;
        few = few;
        many = many;
        used_full = refl;
        order_full = refl;
        starts_full = refl;
        ends_full = refl;
        behind = λ k h. none_anywhere 8 k;
        standing =
            subst (λ (r : List Row). Standing P K r (replicate 200 0) (replicate 200 0)) (sym (reach_none P K M))
            (standing_none P K (replicate 200 0) (replicate 200 0) (none_anywhere 200));
        top_is = sym (ap (top P) (reach_none P K M) ∙ top_nil P);
        clear = λ h l f j from to. none_anywhere 200 j;
      }

  -- and goes through all group orders
  all_tried : (lead : Lead) → 1 ≤ M → tried_from cut no_level 0 lead ≡ try P (reach P K M) [] (orders (listing M)) lead
  unfolding tried_from unmarked orders
  all_tried lead some =
      let n : ℕ = M - (0 + 1) in
      ap (λ (os : List (List ℕ)). try P (reach P K M) [] os lead)
      (below_none (spread (orders_of n) [] (unmarked (replicate 8 false) 0 (M - 0)))
      ∙ ap (λ (m : ℕ). spread (orders_of n) [] (unmarked (replicate 8 false) 0 m)) (let e : M - 0 ≡ M = omega arith in e)
      ∙ ap (spread (orders_of n) []) (unmarked_listing 8 M)
      ∙ sym (orders_spread n (listing M))
      ∙ ap (λ (m : ℕ). orders_of m (listing M)) (let e : suc n ≡ M = omega arith in e ∙ sym (listing_length M)))

  -- before the walk nothing is held, and the mark is the first end above the band
  abbrev start : Lead
  start = lead_with P S K M none_met

  nothing_held : Held (record { end = S + 1; order = replicate 8 0 }) start
  unfolding mark_of
  nothing_held =
      record {
        mark_is = refl;
        order_is = λ rows order e. absurd (let z : ◌≡◌ {A = ℕ} 0 1 = cc in omega arith);
      }

  -- after it the best is that of all group orders
  module _ (best : Grouped) (some : 1 ≤ M)
      (walked : (lead : Lead) → Held (record { end = S + 1; order = replicate 8 0 }) lead → Held best (tried_from cut no_level 0 lead)) where
    abbrev after : Lead
    after = try P (reach P K M) [] (orders (listing M)) start

    held : Held best after
    held = subst (Held best) (all_tried start some) (walked start nothing_held)

    found_lead : theory.grouped P S K M ≡ after.best
    unfolding theory.grouped mark_of
    found_lead = best_leads P S K M (orders (listing M)) none_met (omega arith)

    -- if its end is inside the band
    pub best_within : best.end ≤ S → Some best ≡ best_reply P (theory.grouped P S K M)
    unfolding mark_of lead_by ends_at best_reply
    best_within low = by_lead (try_leads P (reach P K M) [] (orders (listing M)) start)
      where
        by_lead : Leads P (reach P K M) [] (orders (listing M)) start after → Some best ≡ best_reply P (theory.grouped P S K M)
        by_lead (unbeaten each same) = absurd (omega (arith, held.mark_is, ap (λ (l : Lead). l.mark) same))
        by_lead (taken o lowest same) =
            let found : after.best ≡ met (reach P K M o) o = ap (λ (l : Lead). l.best) same in
            rw (found_lead ∙ found)
            (ap₂ (λ (e : ℕ) (l : List ℕ). Some (record { end = e; order = l }))
            (held.mark_is ∙ ap (λ (l : Lead). l.mark) same)
            (held.order_is (reach P K M o) o found))

    -- with an end above it there is none
    pub best_above : S < best.end → None ≡ best_reply P (theory.grouped P S K M)
    unfolding mark_of lead_by ends_at best_reply
    best_above high = by_lead (try_leads P (reach P K M) [] (orders (listing M)) start)
      where
        by_lead : Leads P (reach P K M) [] (orders (listing M)) start after → None ≡ best_reply P (theory.grouped P S K M)
        by_lead (unbeaten each same) = rw (found_lead ∙ ap (λ (l : Lead). l.best) same)
        by_lead (taken o lowest same) = absurd (omega (arith, held.mark_is, ap (λ (l : Lead). l.mark) same, lowest.below_mark))

-- what is told of a sound request made small is told of the request
pub order_asked : (v : View) → SoundRequest v → Limits v → (M : ℕ) →
    best_reply (problem_in (compact_of v)) (theory.grouped (problem_in (compact_of v)) (compact_of v).slots (compact_of v).count M)
    ≡ best_reply (sharing.problem_of v) (grouped v M)
unfolding compact_of grouped
order_asked v sound limits M =
    ap (λ (P : Problem). best_reply P (theory.grouped P v.band.slots v.demand_count M)) (small_problem v sound limits)
