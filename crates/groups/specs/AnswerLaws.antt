-- The ways that groups can go: what they reply, and what the buffers hold afterwards.
use Rattle.std.specs.Prelude.{ℕ, ◌+◌, ◌≤◌, true, false, Some, None, Ok, Err, ◌≡◌, refl, length, take, drop, replicate}
use Rattle.std.proofs.lemmas.Bool.{false≢true}
use mathlib.Core.List.Memᴰ
use mathlib.Core.List.{List, [], ◌∷◌}
use Rattle.std.proofs.Common.{sym, subst, ◌∙◌, arith, length-append, length-drop}
use Rattle.std.proofs.Math.Path.{ap}
use Rattle.refusal.specs.declared.Refusal.{Refusal}
use Rattle.theory.specs.Problem.{Problem, Row, top, placed}
use Rattle.theory.proofs.FirstFitLaws.{top_placed}
use Rattle.theory.specs.Arrange.{Arrange}
use Rattle.theory.proofs.ArrangeLaws.{arrange_length}
use Rattle.theory.specs.Orders.{listing}
use Rattle.theory.proofs.ListingLaws.{listing_length}
use Rattle.theory.specs.Walk.{Best, none_met, met}
use Rattle.theory.specs.Groups.{members}
use Rattle.theory.proofs.GroupsLaws.{grouped_met, members_arrange}
use Rattle.theory.specs.inner.Grouped.{BestGroups}
use Rattle.request.specs.declared.Request.{Request}
use Rattle.request.specs.Whole.{Whole}
use Rattle.request.proofs.SoundLaws.{check_sound, whole_counted}
use Rattle.request.proofs.LimitsLaws.{checked_limits}
use Rattle.request.specs.View.{View, view}
use Rattle.theory.specs.Groups as theory
use Rattle.request.specs.Sharing.{problem_of}
use Rattle.lent.specs.Lent.{over, unless_refused}
use Rattle.lent.specs.LentLaws.{front_written, rooms_held}
use Rattle.meeting.specs.Plan.{starts_of}
use Rattle.meeting.specs.declared.Compact.{Compact}
use Rattle.meeting.specs.Compact.{compact_of}
use Rattle.meeting.specs.CompactLaws.{small}
use Rattle.meeting.specs.inner.Small.{problem_in, Small}
use Rattle.groups.specs.StartLaws.{order_asked}
use Rattle.groups.specs.ReplyLaws.{groupable_says, groups_passed}
use Rattle.groups.specs.inner.Answer.{Asked, FoundOrder}
use Rattle.placing.specs.FirstFit.{blockers_of, fitted}
use Rattle.search.specs.inner.Told.{is_met}
use Rattle.groups.specs.declared.Grouped.{Grouped}
use Rattle.groups.specs.Reply.{
  check_groups,
  grouped,
  order_told,
  best_reply,
  reply_after,
  groups_reply,
  best_starts,
  best_blockers,
  groups_starts,
  groups_blockers,
}

-- a best that is met has rows and an order
pub met_some : (best : Best) → is_met best ≡ true → (rows : List Row) × (order : List ℕ) × (best ≡ met rows order)
unfolding is_met
met_some none_met e = absurd (false≢true e)
met_some (met rows order) e = (rows, order, refl)

-- one that is not is none
pub met_none : (best : Best) → is_met best ≡ false → best ≡ none_met
unfolding is_met
met_none none_met e = refl
met_none (met rows order) e = absurd (false≢true (sym e))

-- where none is told there is none
pub told_none : (P : Problem) (best : Best) → None ≡ best_reply P best → best ≡ none_met
unfolding best_reply
told_none P none_met e = refl
told_none P (met rows order) e = absurd (let z : ◌≡◌ {A = ℕ} 0 1 = cc in omega arith)

-- one that is told has rows and an order
pub told_some : (P : Problem) (best : Best) (told : Grouped) → Some told ≡ best_reply P best →
    (rows : List Row) × (order : List ℕ) × (best ≡ met rows order) × (told.end ≡ top P rows) × (told.order ≡ order_told order)
unfolding best_reply
told_some P none_met told e = absurd (let z : ◌≡◌ {A = ℕ} 0 1 = cc in omega arith)
told_some P (met rows order) told e =
    let same : told ≡ record { end = top P rows; order = order_told order } = cc in
    (rows, order, refl, ap (λ (b : Grouped). b.end) same, ap (λ (b : Grouped). b.order) same)

-- an order of at most eight groups is told in eight places, of which it is the front
pub told_long : (order : List ℕ) → length order ≤ 8 → length (order_told order) ≡ 8
unfolding order_told over
told_long order few =
    let none : List ℕ = replicate 8 0 in
    length-append order (drop (length order) none) ∙ ap (λ (n : ℕ). length order + n) (length-drop (length order) none) ∙ omega arith

pub told_front : (order : List ℕ) (M : ℕ) → length order ≡ M → take M (order_told order) ≡ order
unfolding order_told
told_front order M long = front_written M order (replicate 8 0) long

module _ (v : View) (M : ℕ) (rooms starts blockers : List ℕ) where
  -- a refusal is told, and nothing is written
  pub refused_reply : (why : Refusal) → check_groups v M rooms ≡ Err why →
      Err why ≡ groups_reply v M rooms
  unfolding groups_reply reply_after
  refused_reply why fails = rw fails

  pub refused_starts : (why : Refusal) → check_groups v M rooms ≡ Err why → starts ≡ groups_starts v M rooms starts
  unfolding groups_starts unless_refused
  refused_starts why fails = rw fails

  pub refused_blockers : (why : Refusal) → check_groups v M rooms ≡ Err why → blockers ≡ groups_blockers v M rooms blockers
  unfolding groups_blockers unless_refused
  refused_blockers why fails = rw fails

  module _ (passes : check_groups v M rooms ≡ Ok tt) where
    -- nothing found is told, and nothing is written
    pub nothing_reply : grouped v M ≡ none_met → Ok None ≡ groups_reply v M rooms
    unfolding groups_reply reply_after best_reply
    nothing_reply none = rw (passes, none)

    pub nothing_starts : grouped v M ≡ none_met → starts ≡ groups_starts v M rooms starts
    unfolding groups_starts unless_refused best_starts
    nothing_starts none = rw (passes, none)

    pub nothing_blockers : grouped v M ≡ none_met → blockers ≡ groups_blockers v M rooms blockers
    unfolding groups_blockers unless_refused best_blockers
    nothing_blockers none = rw (passes, none)

    module _ (rows : List Row) (order : List ℕ) (found : grouped v M ≡ met rows order) where
      -- a plan is told with its order, and written
      pub found_reply : Ok (Some (record { end = top (problem_of v) rows; order = order_told order })) ≡ groups_reply v M rooms
      unfolding groups_reply reply_after best_reply
      found_reply = rw (passes, found)

      pub found_starts : over (starts_of v.demand_count rows) starts ≡ groups_starts v M rooms starts
      unfolding groups_starts unless_refused best_starts
      found_starts = rw (passes, found)

      pub found_blockers : over (blockers_of (problem_of v) v.demand_count rows) blockers ≡ groups_blockers v M rooms blockers
      unfolding groups_blockers unless_refused best_blockers
      found_blockers = rw (passes, found)

module _ (v : View) (M : ℕ) (some : 1 ≤ M) (rows : List Row) (order : List ℕ) (found : grouped v M ≡ met rows order) where
  -- the best of all group orders
  pub best_is : BestGroups (problem_of v) v.band.slots v.demand_count M rows order
  unfolding grouped
  best_is = grouped_met (problem_of v) v.band.slots v.demand_count M rows order found

  -- it has as many groups as there are
  pub order_long : length order ≡ M
  order_long = arrange_length order (listing M) best_is.listed ∙ listing_length M

  -- its demands are all demands
  pub all_members : Arrange (members v.demand_count M order) (listing v.demand_count)
  all_members = members_arrange v.demand_count M order some best_is.listed

  -- and first fit along them gives its rows
  pub members_fitted : fitted v (members v.demand_count M order) ≡ placed rows
  unfolding fitted
  members_fitted =
      top_placed (problem_of v) v.band.slots [] (members v.demand_count M order)
      (subst (λ (r : List Row). top (problem_of v) r ≤ v.band.slots) best_is.rows_are best_is.within)
      ∙ ap placed (sym best_is.rows_are)

-- what follows once all tests have passed
pub asked : (q : Request) → Whole q → (M starts blockers : ℕ) → check_groups (view q) M (starts ∷ blockers ∷ []) ≡ Ok tt →
    Asked (view q) M starts blockers
asked q arrays M starts blockers passes =
    let v : View = view q in
    let tests = groups_passed v M (starts ∷ blockers ∷ []) passes in
    let can = groupable_says v.demand_count M tests.2 in
    let held = rooms_held v.demand_count (starts ∷ blockers ∷ []) tests.1 in
    record {
      passes = passes;
      checked = tests.0;
      sound = check_sound v (whole_counted q arrays) tests.0;
      limits = checked_limits q arrays tests.0;
      some = can.0;
      few = can.1;
      many = can.2;
      starts_room = held starts (Memᴰ.head refl);
      blockers_room = held blockers (Memᴰ.tail (Memᴰ.head refl));
    }

module _ {v : View} {M starts blockers : ℕ} (asks : Asked v M starts blockers) (k : Compact) (is : k ≡ compact_of v) where
  -- the walk may begin
  pub small_asked : Small k
  small_asked = subst Small (sym is) (small v asks.sound asks.limits)

  pub many_asked : M ≤ k.count
  unfolding compact_of
  many_asked = rw is asks.many

  -- what it tells is told of the request
  told_asked : best_reply (problem_in k) (theory.grouped (problem_in k) k.slots k.count M) ≡ best_reply (problem_of v) (grouped v M)
  told_asked =
      ap (λ (c : Compact). best_reply (problem_in c) (theory.grouped (problem_in c) c.slots c.count M)) is
      ∙ order_asked v asks.sound asks.limits M

  pub none_asked : None ≡ best_reply (problem_in k) (theory.grouped (problem_in k) k.slots k.count M) → grouped v M ≡ none_met
  none_asked e = told_none (problem_of v) (grouped v M) (e ∙ told_asked)

  pub order_found : (best : Grouped) → Some best ≡ best_reply (problem_in k) (theory.grouped (problem_in k) k.slots k.count M) →
      FoundOrder v M best
  order_found best e =
      let (rows, order, found, end_is, order_is) = told_some (problem_of v) (grouped v M) best (e ∙ told_asked) in
      let long : length order ≡ M = order_long v M asks.some rows order found in
      record {
        rows = rows;
        order = order;
        found = found;
        long = long;
        end_is = end_is;
        order_is = order_is;
        front = ap (take M) order_is ∙ told_front order M long;
      }
