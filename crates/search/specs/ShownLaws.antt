-- The plan that a search shows is the one that the call of first fit gives in the order that it shows.
use Rattle.std.specs.Prelude.{ℕ, ◌≤◌, ◌⊎◌, ◌≡◌, length, take, Ok}
use mathlib.Core.List.{List, [], Memᴰ}
use Rattle.std.proofs.Common.{⊎_elim, sym, ap, subst, ◌∙◌, arith}
use Rattle.theory.specs.Problem.{Problem, Row, placed, fill, top, start_in}
use Rattle.theory.proofs.FillLaws.{fill_plan_end}
use Rattle.theory.proofs.FirstFitLaws.{top_placed}
use Rattle.theory.proofs.AlikeLaws.{plan_end_alike}
use Rattle.theory.specs.Orders.{listing}
use Rattle.theory.proofs.ListingLaws.{listing_below, listing_no_repeats}
use Rattle.request.specs.declared.Request.{Request}
use Rattle.request.specs.View.{View, view}
use Rattle.request.specs.Check.{check}
use Rattle.request.specs.Whole.{Whole}
use Rattle.request.proofs.LimitsLaws.{checked_limits}
use Rattle.request.specs.Sharing.{problem_of}
use Rattle.meeting.specs.Plan.{start_at, starts_of}
use Rattle.meeting.specs.PlanEndLaws.{plan_end_is}
use Rattle.placing.specs.FirstFit.{blockers_of, fitted}
use Rattle.placing.proofs.FirstFitLaws.{order_placed, order_starts, order_blockers, blockers_long}
use Rattle.search.specs.declared.Outcome.{Outcome}
use Rattle.search.specs.declared.Outcome.TheVariants.{Finished, Unfinished}
use Rattle.search.specs.declared.Answer.{Answer}
use Rattle.search.specs.Reply.{Buffers, rooms_of, searched, check_search, search_reply, buffers_after}
use Rattle.search.specs.ReplyLaws.{passed_searchable}
use Rattle.search.specs.Demand3.{OrderOf, PlanShown, FirstFitShows, Promised, fronts}
use Rattle.search.specs.Demand3Laws.{answer_given, demand3}
use Rattle.meeting.specs.MeetingLaws.{start_listed, starts_long}
use Rattle.lent.specs.LentLaws.{front_written}

-- a plan shown is what first fit gives in its order
shown_placed : (v : View) → check v ≡ Ok tt → length v.demands ≡ v.demand_count → (e : ℕ) (shown : Buffers) (starts blockers : List ℕ) →
    PlanShown v e shown → v.demand_count ≤ length starts → v.demand_count ≤ length blockers → FirstFitShows v e shown starts blockers
unfolding fitted OrderOf
shown_placed v passes counted e shown starts blockers plan room blockers-room =
    record {
      placed = order_placed v passes shown.order starts blockers plan.an_order rows out room blockers-room ∙ ap Ok ends;
      same_starts =
          ap (take K) (order_starts v passes shown.order starts blockers plan.an_order rows out room blockers-room)
          ∙ front_written K (starts_of K rows) starts (starts_long K rows)
          ∙ sym plan.by_first_fit;
      same_blockers =
          ap (take K) (order_blockers v passes shown.order starts blockers plan.an_order rows out room blockers-room)
          ∙ front_written K (blockers_of P K rows) blockers (blockers_long P K rows)
          ∙ sym plan.its_blockers;
    }
  where
    K : ℕ
    K = v.demand_count

    P : Problem
    P = problem_of v

    rows : List Row
    rows = fill P [] shown.order

    same : (i : ℕ) → Memᴰ i (listing K) → start_in rows i ≡ start_at shown.starts i
    same i m =
        sym (start_listed K rows i (listing_below K i m)) ∙ ap (λ (s : List ℕ). start_at s i) (sym plan.by_first_fit)

    ends : top P rows ≡ e
    ends =
        sym (fill_plan_end P [] shown.order (listing K) plan.an_order (listing_no_repeats K))
        ∙ plan_end_alike P (start_in rows) (start_at shown.starts) [] (listing K) same
        ∙ sym (plan_end_is v shown.starts counted)
        ∙ plan.ends

    out : fitted v shown.order ≡ placed rows
    out = top_placed P v.band.slots [] shown.order (omega (arith, ends, plan.in_band))

-- with a plan shown, finished or not: first fit, called with the order shown and any two buffers of at least K entries, replies with the
-- end shown, and its starts and its blockers are those shown
pub first_fit_shown : (q : Request) → Whole q → (limit : ℕ) (lent : Buffers) (a : Answer) →
    search_reply (view q) limit (rooms_of lent) ≡ Ok a →
    (e : ℕ) → (a.outcome ≡ Finished e) ⊎ (a.outcome ≡ Unfinished e) →
    (starts blockers : List ℕ) → (view q).demand_count ≤ length starts → (view q).demand_count ≤ length blockers →
    FirstFitShows (view q) e (fronts (view q).demand_count (buffers_after (view q) limit lent)) starts blockers
unfolding search_reply Promised
first_fit_shown q whole limit lent a answered e outcome starts blockers room blockers-room =
    shown_placed v sound (checked_limits q whole sound).demands_there e shown starts blockers
    (⊎_elim
    (λ (finished : a.outcome ≡ Finished e). (promised (Finished e) finished).shown)
    (λ (unfinished : a.outcome ≡ Unfinished e). (promised (Unfinished e) unfinished).shown)
    outcome)
    room
    blockers-room
  where
    v : View
    v = view q

    shown : Buffers
    shown = fronts v.demand_count (buffers_after v limit lent)

    sound : check v ≡ Ok tt
    sound =
        (passed_searchable v (rooms_of lent) (answer_given (check_search v (rooms_of lent)) (searched v limit) a answered).0).sound

    promised : (o : Outcome) → a.outcome ≡ o → Promised v limit a shown o
    promised o is = subst (Promised v limit a shown) is (demand3 q whole limit lent a answered).promised
