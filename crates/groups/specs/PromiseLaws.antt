-- Groups keep their promises.
use Prim.Native.Nat.{ℕ, ◌≤◌, ◌<◌}
use Rattle.std.proofs.Math.Bool.{true}
use mathlib.Core.List.Memᴰ
use mathlib.Core.List.{List, [], ◌∷◌, map}
use Rattle.std.specs.Prelude.{◌≢◌, drop, get_or, Option, Some, None, Result, Ok, Err}
use Rattle.std.proofs.Math.Path.{◌≡◌, refl, sym, ap, subst}
use Rattle.std.proofs.Common.{ap₂, ◌∙◌, arith}
use Rattle.std.proofs.Math.ListN.{length, take}
use Rattle.refusal.specs.declared.Refusal.{Refusal}
use Rattle.refusal.specs.Told.{Told}
use Rattle.refusal.specs.ToldLaws.{refusal_told_whole, refusal_told_fault}
use Rattle.theory.proofs.AlikeLaws.{allowed_alike}
use Rattle.theory.proofs.FirstFitLaws.{placed_fill, placed_top}
use Rattle.theory.specs.Groups.{members}
use Rattle.theory.proofs.GroupsLaws.{grouped_none}
use Rattle.theory.proofs.GroupsAloneLaws as theory
use Rattle.theory.proofs.ListingLaws.{listing_below}
use Rattle.theory.specs.Orders.{listing}
use Rattle.theory.specs.Problem.{Problem, Row, Allowed, Fitted, placed, refused, fill, top}
use Rattle.theory.proofs.ProblemLaws.{top_nil}
use Rattle.theory.specs.Search as search
use Rattle.theory.specs.Walk.{Best, none_met, met}
use Rattle.theory.proofs.SearchLaws.{search_promise}
use Rattle.theory.specs.inner.Promises.{Grounds, Promise}
use Rattle.theory.specs.inner.Tried.{ends_at}
use Rattle.theory.specs.inner.Grouped.{reach}
use Rattle.request.specs.declared.Request.{Request}
use Rattle.request.specs.View.{View, view}
use Rattle.request.specs.Check.{check}
use Rattle.request.specs.Sharing.{problem_of}
use Rattle.request.specs.Whole.{Whole}
use Rattle.request.proofs.SoundLaws.{check_sound, whole_counted}
use Rattle.request.proofs.LimitsLaws.{checked_limits}
use Rattle.lent.specs.Lent.{check_rooms, unless_refused}
use Rattle.lent.specs.LentLaws.{rooms_held, front_written}
use Rattle.meeting.specs.Bound.{bound_of}
use Rattle.meeting.specs.MeetingLaws.{listing_at}
use Rattle.meeting.specs.Plan.{AllowedPlan, start_at}
use Rattle.meeting.specs.PlanLaws.{slots_to_ends, ends_to_slots}
use Rattle.placing.specs.FirstFit.{fitted}
use Rattle.placing.proofs.FirstFitLaws.{order_placed, order_starts, order_blockers}
use Rattle.search.specs.declared.Answer.{Answer}
use Rattle.search.specs.Reply.{Buffers, rooms_of, searched, search_reply, check_search, answer_told, outcome_told, buffers_after, buffers_kept}
use Rattle.search.specs.Demand3.{settles}
use Rattle.search.specs.Demand3Laws.{answer_given, grounds_of}
use Rattle.search.specs.SettlesLaws.{settles_told}
use Rattle.groups.specs.declared.Grouped.{Grouped}
use Rattle.groups.specs.Reply.{groupable, check_groups, grouped, order_told, best_reply, reply_after}
use Rattle.groups.specs.Reply.{groups_reply, groups_starts, groups_blockers, grouping_told}
use Rattle.groups.specs.ReplyLaws.{groupable_says, groups_passed}
use Rattle.groups.specs.AnswerLaws.{
  refused_starts,
  refused_blockers,
  nothing_starts,
  nothing_blockers,
  told_none,
  told_some,
  told_front,
  found_starts,
  found_blockers,
  best_is,
  order_long,
  all_members,
  members_fitted,
}
use Rattle.groups.specs.Promise.{GroupOrder, PlacedAlong, RefusedAlong, BestOfGroups, Promised, WrittenAlong, grouping_of, AsSearch}

module _ (v : View) (M : ℕ) where
  abbrev P : Problem
  P = problem_of v

  abbrev K : ℕ
  K = v.demand_count

  -- a plan along a group order is what the order reaches, and lies inside the band
  along_reach : (order : List ℕ) (e : ℕ) → PlacedAlong v M order e →
      (top P (reach P K M order) ≡ e) × (top P (reach P K M order) ≤ v.band.slots)
  unfolding fitted
  along_reach order e placed-it = (
    ap (top P) (sym (placed_fill P v.band.slots [] (members K M order) placed-it.rows placed-it.places)) ∙ placed-it.ends,
    placed_top P v.band.slots [] (members K M order) placed-it.rows (omega (arith, top_nil P)) placed-it.places,
  )

  -- one that ends above the band is refused
  above_refused : (order : List ℕ) → v.band.slots < top P (reach P K M order) → (f : Fitted) → fitted v (members K M order) ≡ f →
      RefusedAlong v M order
  unfolding fitted
  above_refused order above (placed rows) is =
      absurd (omega (arith, placed_top P v.band.slots [] (members K M order) rows (omega (arith, top_nil P)) is))
  above_refused order above (refused rows i) is = record { rows = rows; demand = i; refuses = is }

  -- the best plan there is along group orders
  best_kept : 1 ≤ M → (rows : List Row) (order : List ℕ) → grouped v M ≡ met rows order → BestOfGroups v M (top P rows) order
  unfolding GroupOrder
  best_kept some rows order found =
      let best = best_is v M some rows order found in
      record {
        a_group_order = best.listed;
        places = record { rows = rows; places = members_fitted v M some rows order found; ends = refl };
        none_lower = λ other end listed placed-it. omega (arith, best.lowest other listed, (along_reach other end placed-it).0);
        first = λ other end listed low placed-it. omega (arith, best.first other listed low, (along_reach other end placed-it).0);
      }

  -- what is told of the best keeps its promise
  told_kept : 1 ≤ M → (best : Best) → grouped v M ≡ best → Promised v M (Ok (best_reply P best))
  unfolding best_reply Promised GroupOrder grouped
  told_kept some none_met found = λ other listed.
      above_refused other (grouped_none P v.band.slots K M found other listed) (fitted v (members K M other)) refl
  told_kept some (met rows order) found =
      subst (BestOfGroups v M (top P rows)) (sym (told_front order M (order_long v M some rows order found)))
      (best_kept some rows order found)

  -- the reply of groups keeps its promise, whatever the request, the number of groups and the buffers were
  pub groups_promise : (rooms : List ℕ) → Promised v M (groups_reply v M rooms)
  unfolding groups_reply reply_after Promised
  groups_promise rooms = by_check (check_groups v M rooms) refl
    where
      by_check : (c : Result Unit Refusal) → check_groups v M rooms ≡ c → Promised v M (reply_after c (best_reply P (grouped v M)))
      by_check (Ok _) is = told_kept (groupable_says K M (groups_passed v M rooms is).2).0 (grouped v M) refl
      by_check (Err why) is = tt

  -- nothing is found where first fit refuses along every group order
  pub groups_none : (rooms : List ℕ) → check_groups v M rooms ≡ Ok tt →
      ((other : List ℕ) → GroupOrder M other → RefusedAlong v M other) → groups_reply v M rooms ≡ Ok None
  unfolding groups_reply reply_after best_reply
  groups_none rooms passes each = by_best (grouped v M) refl
    where
      by_best : (best : Best) → grouped v M ≡ best → reply_after (check_groups v M rooms) (best_reply P (grouped v M)) ≡ Ok None
      by_best none_met found = rw (passes, found) refl
      by_best (met rows order) found =
          let best = best_kept (groupable_says K M (groups_passed v M rooms passes).2).0 rows order found in
          let none = each order best.a_group_order in
          let clash : placed best.places.rows ≡ refused none.rows none.demand = sym best.places.places ∙ none.refuses in
          absurd (let z : ◌≡◌ {A = ℕ} 0 1 = cc in omega arith)

  -- a plan told was found
  plan_found : (rooms : List ℕ) (plan : Grouped) → groups_reply v M rooms ≡ Ok (Some plan) →
      (check_groups v M rooms ≡ Ok tt) × (Some plan ≡ best_reply P (grouped v M))
  unfolding groups_reply reply_after
  plan_found rooms plan told = by_check (check_groups v M rooms) refl told
    where
      by_check : (c : Result Unit Refusal) → check_groups v M rooms ≡ c → reply_after c (best_reply P (grouped v M)) ≡ Ok (Some plan) →
          (check_groups v M rooms ≡ Ok tt) × (Some plan ≡ best_reply P (grouped v M))
      by_check (Ok _) is t = (is, sym cc)
      by_check (Err why) is t = absurd (let z : ◌≡◌ {A = ℕ} 0 1 = cc in omega arith)

  -- and then first fit along the order told replies with its end, and the buffers hold what it writes
  pub groups_written : (starts blockers : List ℕ) (plan : Grouped) →
      groups_reply v M (length starts ∷ length blockers ∷ []) ≡ Ok (Some plan) →
      WrittenAlong v M plan.end (take M plan.order) (length starts ∷ length blockers ∷ []) starts blockers
  groups_written starts blockers plan told =
      let rooms : List ℕ = length starts ∷ length blockers ∷ [] in
      let (passes, is) = plan_found rooms plan told in
      let (rows, order, found, ends, order_is) = told_some P (grouped v M) plan is in
      let tests = groups_passed v M rooms passes in
      let some : 1 ≤ M = (groupable_says K M tests.2).0 in
      let held = rooms_held K rooms tests.1 in
      let all = all_members v M some rows order found in
      let fits = members_fitted v M some rows order found in
      let room : K ≤ length starts = held (length starts) (Memᴰ.head refl) in
      let blockers-room : K ≤ length blockers = held (length blockers) (Memᴰ.tail (Memᴰ.head refl)) in
      subst (λ (o : List ℕ). WrittenAlong v M plan.end o rooms starts blockers)
      (sym (ap (take M) order_is ∙ told_front order M (order_long v M some rows order found)))
      (record {
        replies =
            order_placed v tests.0 (members K M order) starts blockers all rows fits room blockers-room ∙ ap Ok (sym ends);
        starts_are =
            sym (found_starts v M rooms starts blockers passes rows order found)
            ∙ sym (order_starts v tests.0 (members K M order) starts blockers all rows fits room blockers-room);
        blockers_are =
            sym (found_blockers v M rooms starts blockers passes rows order found)
            ∙ sym (order_blockers v tests.0 (members K M order) starts blockers all rows fits room blockers-room);
      })

-- without a plan, be it a refusal or that nothing was found, both buffers stay as they were
pub groups_keep : (v : View) (M : ℕ) (rooms starts blockers : List ℕ) → ((plan : Grouped) → groups_reply v M rooms ≢ Ok (Some plan)) →
    (groups_starts v M rooms starts ≡ starts) × (groups_blockers v M rooms blockers ≡ blockers)
unfolding groups_reply reply_after best_reply
groups_keep v M rooms starts blockers unfound = by_check (check_groups v M rooms) refl (grouped v M) refl
  where
    by_check : (c : Result Unit Refusal) → check_groups v M rooms ≡ c → (best : Best) → grouped v M ≡ best →
        (groups_starts v M rooms starts ≡ starts) × (groups_blockers v M rooms blockers ≡ blockers)
    by_check (Err why) is best found =
        (sym (refused_starts v M rooms starts blockers why is), sym (refused_blockers v M rooms starts blockers why is))
    by_check (Ok _) is none_met found =
        (sym (nothing_starts v M rooms starts blockers is found), sym (nothing_blockers v M rooms starts blockers is found))
    by_check (Ok _) is (met rows order) found =
        absurd (unfound (record { end = top (problem_of v) rows; order = order_told order }) (rw (is, found) refl))

-- two replies that are told alike are the same
pub grouping_told_whole : (r r' : Result (Option Grouped) Refusal) → grouping_told r ≡ grouping_told r' → r ≡ r'
unfolding grouping_told
grouping_told_whole (Ok (Some plan)) (Ok (Some plan')) h =
    ap₂ (λ (e : ℕ) (o : List ℕ). Ok (Some (record { end = e; order = o })))
    (ap (λ (t : Told ℕ). get_or t.1 1 0) h) (ap (λ (t : Told ℕ). drop 2 t.1) h)
grouping_told_whole (Ok (Some plan)) (Ok None) h = absurd (omega (arith, ap (λ (t : Told ℕ). get_or t.1 0 0) h))
grouping_told_whole (Ok None) (Ok (Some plan)) h = absurd (omega (arith, ap (λ (t : Told ℕ). get_or t.1 0 0) h))
grouping_told_whole (Ok None) (Ok None) h = refl
grouping_told_whole (Ok (Some plan)) (Err why) h = absurd (refusal_told_fault why _ _ (sym h))
grouping_told_whole (Ok None) (Err why) h = absurd (refusal_told_fault why _ _ (sym h))
grouping_told_whole (Err why) (Ok (Some plan)) h = absurd (refusal_told_fault why _ _ h)
grouping_told_whole (Err why) (Ok None) h = absurd (refusal_told_fault why _ _ h)
grouping_told_whole (Err why) (Err why') h = ap Err (refusal_told_whole why why' h)

-- two results that meet the contract are equal
pub same_groups : (v : View) (M : ℕ) (rooms starts blockers : List ℕ) (a a' : Result (Option Grouped) Refusal) (b b' c c' : List ℕ) →
    a ≡ groups_reply v M rooms → b ≡ groups_starts v M rooms starts → c ≡ groups_blockers v M rooms blockers →
    a' ≡ groups_reply v M rooms → b' ≡ groups_starts v M rooms starts → c' ≡ groups_blockers v M rooms blockers →
    (a ≡ a') × (b ≡ b') × (c ≡ c')
same_groups v M rooms starts blockers a a' b b' c c' h k l h' k' l' = (h ∙ sym h', k ∙ sym k', l ∙ sym l')

module _ (q : Request) (whole : Whole q) (rooms : List ℕ) (passes : check_groups (view q) (view q).demand_count rooms ≡ Ok tt) where
  abbrev v : View
  v = view q

  abbrev all : ℕ
  all = v.demand_count

  -- the tests that passed
  tests : (check v ≡ Ok tt) × (check_rooms all rooms ≡ Ok tt) × (groupable all all ≡ true)
  tests = groups_passed v all rooms passes

  -- there is a demand
  some : 1 ≤ all
  some = (groupable_says all all tests.2).0

  -- what a search rests on
  grounds : Grounds (problem_of v) v.band.slots (bound_of v) [] (listing all)
  grounds = grounds_of v (check_sound v (whole_counted q whole) tests.0) (checked_limits q whole tests.0).demands_there

  -- each demand a group of its own: the best group order is what a search holds that has settled the question
  best_searched : (limit : ℕ) → search.settled (searched v limit).outcome ≡ true → grouped v all ≡ (searched v limit).best
  unfolding grouped searched
  best_searched limit settled = theory.groups_as_search (problem_of v) v.band.slots (bound_of v) all some grounds limit settled

  -- what is told of a search is told of the groups
  told_alike : (limit : ℕ) (lent : Buffers) (a : search.Answer) (o : search.Outcome) →
      Promise (problem_of v) v.band.slots (bound_of v) limit [] (listing all) a o → grouped v all ≡ a.best →
      AsSearch all (outcome_told o) (take all (buffers_kept v a.best lent).order) (Ok (best_reply (problem_of v) (grouped v all)))
  unfolding Promise outcome_told grouping_of best_reply buffers_kept ends_at
  told_alike limit lent a (search.finished e) f is =
      let found : grouped v all ≡ met (fill (problem_of v) [] f.order) f.order = is ∙ f.shown.best_is in
      let long : length f.order ≡ all = order_long v all some (fill (problem_of v) [] f.order) f.order found in
      let rows : List Row = fill (problem_of v) [] f.order in
      let plan : Grouped = record { end = top (problem_of v) rows; order = order_told f.order } in
      record {
        same_outcome = (plan, rw found refl, f.shown.order_ends);
        same_order =
            λ end told finished is_told.
            let told_is : ◌≡◌ {A = Result (Option Grouped) Refusal} (Ok (Some plan)) (Ok (Some told)) = rw found at is_told in
            let same : told ≡ plan = sym cc in
            rw f.shown.best_is
            (ap (λ (p : Grouped). take all p.order) same ∙ told_front f.order all long ∙ sym (front_written all f.order lent.order long));
      }
  told_alike limit lent a search.nothing_fits n is =
      let none : grouped v all ≡ none_met = is ∙ n.best_is in
      record {
        same_outcome = rw none refl;
        same_order = λ end told finished is_told. absurd (let z : ◌≡◌ {A = ℕ} 0 1 = cc in omega arith);
      }
  told_alike limit lent a (search.unfinished e) u is =
      record { same_outcome = tt; same_order = λ end told finished is_told. absurd (let z : ◌≡◌ {A = ℕ} 0 1 = cc in omega arith) }
  told_alike limit lent a search.unfinished_empty u is =
      record { same_outcome = tt; same_order = λ end told finished is_told. absurd (let z : ◌≡◌ {A = ℕ} 0 1 = cc in omega arith) }

  -- groups of one demand each and a search that settles the question, under whatever limit and with whatever buffers, tell the same end and
  -- the same order, or both that there is nothing
  pub groups_as_search : (limit : ℕ) (lent : Buffers) (a : Answer) → search_reply v limit (rooms_of lent) ≡ Ok a →
      settles a.outcome ≡ true → AsSearch all a.outcome (take all (buffers_after v limit lent).order) (groups_reply v all rooms)
  unfolding search_reply buffers_after unless_refused groups_reply reply_after answer_told searched
  groups_as_search limit lent a e settled =
      let (passed, same) = answer_given (check_search v (rooms_of lent)) (searched v limit) a e in
      let done : search.settled (searched v limit).outcome ≡ true
      = sym (settles_told (searched v limit).outcome) ∙ ap (λ (x : Answer). settles x.outcome) same ∙ settled in
      let along : List ℕ = take all (buffers_kept v (searched v limit).best lent).order in
      let alike : AsSearch all (outcome_told (searched v limit).outcome) along (Ok (best_reply (problem_of v) (grouped v all)))
      = told_alike limit lent (searched v limit) (searched v limit).outcome
      (search_promise (problem_of v) v.band.slots (bound_of v) limit [] (listing all) grounds) (best_searched limit done) in
      rw (passes, passed)
      (subst (λ (x : Answer). AsSearch all x.outcome along (Ok (best_reply (problem_of v) (grouped v all)))) same alike)

  -- nothing found is told exactly where no plan is allowed
  pub groups_nothing : (groups_reply v all rooms ≡ Ok None → (plan : List ℕ) → AllowedPlan v plan → ⊥)
      × (((plan : List ℕ) → AllowedPlan v plan → ⊥) → groups_reply v all rooms ≡ Ok None)
  unfolding groups_reply reply_after best_reply grouped start_at
  groups_nothing = (
    (λ told plan allowed.
        exactly.0
        (told_none (problem_of v) (grouped v all)
        (let none : ◌≡◌ {A = Result (Option Grouped) Refusal} (Ok (best_reply (problem_of v) (grouped v all))) (Ok None)
        = sym (ap (λ (c : Result Unit Refusal). reply_after c (best_reply (problem_of v) (grouped v all))) passes) ∙ told in
        sym cc))
        (start_at plan)
        (slots_to_ends v plan (check_sound v (whole_counted q whole) tests.0)
        (checked_limits q whole tests.0).routes_there allowed)),
    (λ each.
        let none : grouped v all ≡ none_met
        = exactly.1
        (λ (f : ℕ → ℕ) allowed.
        each (map f (listing all))
        (ends_to_slots v (map f (listing all))
        (allowed_alike (problem_of v) f (start_at (map f (listing all))) v.band.slots [] (listing all)
        (λ i m. sym (listing_at f all i 0 (listing_below all i m))) allowed))) in
        rw (passes, none) refl),
  )
    where
      exactly : (grouped v all ≡ none_met → (plan : ℕ → ℕ) → Allowed (problem_of v) v.band.slots [] (listing all) plan → ⊥)
          × (((plan : ℕ → ℕ) → Allowed (problem_of v) v.band.slots [] (listing all) plan → ⊥) → grouped v all ≡ none_met)
      exactly = theory.nothing_exactly (problem_of v) v.band.slots (bound_of v) all some grounds
