-- The search's plans are accepted by the check of starts, with the end that the search answers.
use Rattle.std.specs.Prelude.{ℕ, List, [], ◌++◌, ◌≡◌, length, drop, Ok}
use Rattle.std.proofs.Common.{sym, subst, ◌∙◌, arith, length-append, take-append-drop}
use Rattle.std.proofs.Math.Path.{ap}
use Rattle.theory.specs.Problem.{start_in, fill}
use Rattle.request.specs.declared.Request.{Request}
use Rattle.request.specs.View.{view}
use Rattle.request.specs.Check.{check}
use Rattle.request.specs.Whole.{Whole}
use Rattle.request.proofs.LimitsLaws.{checked_limits}
use Rattle.request.proofs.SoundLaws.{check_sound, whole_counted}
use Rattle.request.specs.Sharing.{problem_of}
use Rattle.search.specs.declared.Outcome.{Outcome}
use Rattle.search.specs.declared.Outcome.TheVariants.{Finished, Unfinished}
use Rattle.search.specs.declared.Answer.{Answer}
use Rattle.search.specs.Reply.{Buffers, rooms_of, searched, check_search, search_reply, buffers_after}
use Rattle.meeting.specs.Plan.{starts_of}
use Rattle.search.specs.ReplyLaws.{passed_searchable}
use Rattle.search.specs.Demand3.{PlanShown, Promised, fronts}
use Rattle.search.specs.Demand3Laws.{answer_given, demand3}
use Rattle.plan.specs.CheckStarts.{starts_reply}
use Rattle.plan.specs.AcceptableLaws.{allowed_accepted}
use Rattle.planfile.proofs.AlikeLaws.{longer_alike, reply_alike}
use Rattle.planfile.proofs.PlanPackingLaws.{made_length}

-- the plan shown is accepted with its end, whatever stands behind it
shown_accepted : (r : Request) → Whole r → check (view r) ≡ Ok tt → (e : ℕ) (plan : Buffers) (rest : List ℕ) → PlanShown (view r) e plan →
    starts_reply (view r) (plan.starts ++ rest) ≡ Ok e
unfolding starts_of
shown_accepted r whole sound e plan rest shown =
    let v = view r in
    let starts = plan.starts in
    let all : length starts ≡ v.demand_count =
    ap length shown.by_first_fit ∙ made_length (start_in (fill (problem_of v) [] plan.order)) v.demand_count in
    reply_alike v (checked_limits r whole sound).demands_there starts (starts ++ rest) (longer_alike v starts rest all) e
    (omega (arith, length-append starts rest))
    (allowed_accepted v (whole_counted r whole) starts
    (record { request_sound = check_sound v (whole_counted r whole) sound; enough_starts = omega arith; plan_allowed = shown.allowed })
    ∙ ap Ok shown.ends)

module _ (r : Request) (whole : Whole r) (limit : ℕ) (lent : Buffers) (answer : Answer)
    (answered : search_reply (view r) limit (rooms_of lent) ≡ Ok answer) where
  -- the request passed its test
  sound : check (view r) ≡ Ok tt
  unfolding search_reply
  sound =
      (passed_searchable (view r) (rooms_of lent)
      (answer_given (check_search (view r) (rooms_of lent)) (searched (view r) limit) answer answered).0).sound

  -- the plan that the buffers hold at their front
  abbrev plan : Buffers
  plan = fronts (view r).demand_count (buffers_after (view r) limit lent)

  -- what the answer promises of it
  promised : (o : Outcome) → answer.outcome ≡ o → Promised (view r) limit answer plan o
  promised o e = subst (Promised (view r) limit answer plan) e (demand3 r whole limit lent answer answered).promised

  -- a plan shown is what the buffer of starts holds, and it is accepted
  held_accepted : (e : ℕ) → PlanShown (view r) e plan → starts_reply (view r) (buffers_after (view r) limit lent).starts ≡ Ok e
  unfolding fronts
  held_accepted e shown =
      let K = (view r).demand_count in
      let after = (buffers_after (view r) limit lent).starts in
      ap (starts_reply (view r)) (sym (take-append-drop K after)) ∙ shown_accepted r whole sound e plan (drop K after) shown

  -- the plan of a search that has finished is accepted with the end answered
  pub finished_accepted : (e : ℕ) → answer.outcome ≡ Finished e → starts_reply (view r) (buffers_after (view r) limit lent).starts ≡ Ok e
  unfolding Promised
  finished_accepted e finished = held_accepted e (promised (Finished e) finished).shown

  -- and so is the best plan of one that has not
  pub unfinished_accepted : (e : ℕ) → answer.outcome ≡ Unfinished e → starts_reply (view r) (buffers_after (view r) limit lent).starts ≡ Ok e
  unfolding Promised
  unfinished_accepted e unfinished = held_accepted e (promised (Unfinished e) unfinished).shown
