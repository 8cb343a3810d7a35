-- What a search tests, and what its reply and its buffers are then, branch by branch.
use Rattle.std.specs.Prelude.{ℕ, ◌≤◌, ◌<◌, true, false, List, ◌≡◌, refl, get_or, leb, Result, Ok, Err}
use Rattle.std.proofs.lemmas.Bool.{false≢true, lt-leb}
use Rattle.std.proofs.Common.{sym, ap, ap₂, ◌∙◌, leb-true, le-leb, arith}
use Rattle.refusal.specs.declared.Refusal.{Refusal}
use Rattle.refusal.specs.declared.Refusal.TheVariants.{TooManyToSearch}
use Rattle.refusal.specs.Told.{Told}
use Rattle.refusal.specs.ToldLaws.{refusal_told_whole, refusal_told_fault}
use Rattle.theory.specs.Problem.{Row}
use Rattle.theory.specs.Walk.{Best, none_met, met, Course, going, at_bound, out_of_steps}
use Rattle.theory.specs.Search as theory
use Rattle.request.specs.View.{View}
use Rattle.request.specs.Check.{then, check, must}
use Rattle.request.proofs.CheckLaws.{then_sound, then_refused, first_sound, next_sound, test_held, by_check}
use Rattle.meeting.specs.Bound.{bound_of}
use Rattle.meeting.specs.Reply.{bound_reply}
use Rattle.meeting.specs.ReplyLaws.{bound_answered, bound_refused}
use Rattle.search.specs.declared.Outcome.{Outcome}
use Rattle.search.specs.declared.Outcome.TheVariants.{Finished, NothingFits, Unfinished, UnfinishedEmpty}
use Rattle.search.specs.declared.Answer.{Answer}
use Rattle.search.specs.inner.Told.{is_spent, is_met}
use Rattle.search.specs.Reply.{Buffers, rooms_of, outcome_told, outcome_number, outcome_end, outcome_by, answer_told, check_sizes, check_search, reply_to, searched, buffers_kept, search_reply, buffers_after, answered_told}
use Rattle.lent.specs.Lent.{over, unless_refused, check_rooms}
use Rattle.request.specs.Sharing.{problem_of}
use Rattle.placing.specs.FirstFit.{blockers_of}
use Rattle.meeting.specs.Plan.{starts_of}
use Rattle.search.specs.inner.Found.{Searchable}

-- more than 20 demands
pub sizes_many : (K : ℕ) (rooms : List ℕ) → 20 < K → check_sizes K rooms ≡ Err (TooManyToSearch K)
unfolding check_sizes then must
sizes_many K rooms h = rw (lt-leb K 20 h)

-- at most 20: the buffers
pub sizes_few : (K : ℕ) (rooms : List ℕ) → K ≤ 20 → check_sizes K rooms ≡ check_rooms K rooms
unfolding check_sizes then must
sizes_few K rooms h = rw (le-leb K 20 h)

-- a search that passed its tests is one of a sound request of at most 20 demands
pub passed_searchable : (v : View) (rooms : List ℕ) → check_search v rooms ≡ Ok tt → Searchable v
unfolding check_search check_sizes
passed_searchable v rooms h =
    record {
      sound = first_sound (check v) (check_sizes v.demand_count rooms) h;
      few = leb-true v.demand_count 20
          (test_held (leb v.demand_count 20) (TooManyToSearch v.demand_count)
          (first_sound (must (leb v.demand_count 20) (TooManyToSearch v.demand_count)) (check_rooms v.demand_count rooms)
          (next_sound (check v) (check_sizes v.demand_count rooms) h)));
    }

-- of a sound request the sizes are tested, of any other nothing
pub tested_sizes : (v : View) (rooms : List ℕ) → check v ≡ Ok tt → check_search v rooms ≡ check_sizes v.demand_count rooms
unfolding check_search
tested_sizes v rooms h = then_sound (check v) (check_sizes v.demand_count rooms) h

pub tested_request : (v : View) (rooms : List ℕ) (why : Refusal) → check v ≡ Err why → check_search v rooms ≡ Err why
unfolding check_search
tested_request v rooms why h = then_refused (check v) (check_sizes v.demand_count rooms) why h

-- the outcome of a walk goes by whether its steps were spent and whether it met a plan
pub outcome_by_lem : (c : Course) (b : Best) (mark : ℕ) → outcome_by (is_spent c) (is_met b) mark ≡ outcome_told (theory.outcome_of c b mark)
unfolding outcome_by is_spent is_met outcome_told theory.outcome_of
outcome_by_lem going none_met mark = refl
outcome_by_lem going (met rows order) mark = refl
outcome_by_lem at_bound none_met mark = refl
outcome_by_lem at_bound (met rows order) mark = refl
outcome_by_lem out_of_steps none_met mark = refl
outcome_by_lem out_of_steps (met rows order) mark = refl

-- a refused search: its reply, and the buffers as they were
pub refused_reply : (v : View) (limit : ℕ) (rooms : List ℕ) (why : Refusal) → check_search v rooms ≡ Err why → Err why ≡ search_reply v limit rooms
unfolding search_reply reply_to
refused_reply v limit rooms why h = rw h

pub refused_buffers : (v : View) (limit : ℕ) (lent : Buffers) (why : Refusal) → check_search v (rooms_of lent) ≡ Err why → lent ≡ buffers_after v limit lent
unfolding buffers_after unless_refused
refused_buffers v limit lent why h = rw h

-- a search that was run: its reply, and what the buffers hold
pub answered_reply : (v : View) (limit : ℕ) (rooms : List ℕ) → check_search v rooms ≡ Ok tt →
    Ok (answer_told (searched v limit)) ≡ search_reply v limit rooms
unfolding search_reply reply_to
answered_reply v limit rooms h = rw h

pub answered_buffers : (v : View) (limit : ℕ) (lent : Buffers) → check_search v (rooms_of lent) ≡ Ok tt →
    buffers_kept v (searched v limit).best lent ≡ buffers_after v limit lent
unfolding buffers_after unless_refused
answered_buffers v limit lent h = rw h

-- with a plan the buffers get its starts, its order and its blockers
pub plan_kept : (v : View) (best : Best) (lent : Buffers) (starts order blockers : List ℕ) → is_met best ≡ true →
    ((rows : List Row) (along : List ℕ) → best ≡ met rows along →
    (starts ≡ starts_of v.demand_count rows) × (order ≡ along) × (blockers ≡ over (blockers_of (problem_of v) v.demand_count rows) lent.blockers)) →
    record { starts = over starts lent.starts; order = over order lent.order; blockers = blockers } ≡ buffers_kept v best lent
unfolding buffers_kept is_met
plan_kept v none_met lent starts order blockers h same = absurd (false≢true h)
plan_kept v (met rows along) lent starts order blockers h same =
    let (s, o, b) = same rows along refl in
    ap₂ (λ (x y : List ℕ). record { starts = over x lent.starts; order = over y lent.order; blockers = blockers }) s o
    ∙ ap (λ (z : List ℕ). record { starts = over (starts_of v.demand_count rows) lent.starts; order = over along lent.order; blockers = z }) b

-- without a plan they stay as they were
pub no_plan_kept : (v : View) (best : Best) (lent : Buffers) → is_met best ≡ false → lent ≡ buffers_kept v best lent
unfolding buffers_kept is_met
no_plan_kept v none_met lent h = refl
no_plan_kept v (met rows order) lent h = absurd (false≢true (sym h))

-- a bound in reply: the request is sound, and it is its bound
pub bound_known : (v : View) (need : ℕ) → Ok need ≡ bound_reply v → (check v ≡ Ok tt) × (need ≡ bound_of v)
bound_known v need h =
    by_check (check v)
    (λ (sound : check v ≡ Ok tt).
    let same : Ok need ≡ Ok (bound_of v) = h ∙ sym (bound_answered v (bound_of v) sound refl) in (sound, cc))
    (λ (why : Refusal) (refused : check v ≡ Err why).
    let same : Ok need ≡ Err why = h ∙ sym (bound_refused v why refused) in
    absurd (let z : ◌≡◌ {A = ℕ} 0 1 = cc in omega arith))

-- a refusal in reply is the request's
pub refusal_known : (v : View) (why : Refusal) → Err why ≡ bound_reply v → check v ≡ Err why
refusal_known v why h =
    by_check (check v)
    (λ (sound : check v ≡ Ok tt).
    let same : Err why ≡ Ok (bound_of v) = h ∙ sym (bound_answered v (bound_of v) sound refl) in
    absurd (let z : ◌≡◌ {A = ℕ} 0 1 = cc in omega arith))
    (λ (other : Refusal) (refused : check v ≡ Err other).
    let same : Err why ≡ Err other = h ∙ sym (bound_refused v other refused) in refused ∙ cc)

-- an outcome is its number and its end
pub same_outcome : (o o' : Outcome) → outcome_number o ≡ outcome_number o' → outcome_end o ≡ outcome_end o' → o ≡ o'
unfolding outcome_number outcome_end
same_outcome (Finished e) (Finished e') n end = ap Finished end
same_outcome (Finished e) NothingFits n end = absurd (omega (arith, n))
same_outcome (Finished e) (Unfinished e') n end = absurd (omega (arith, n))
same_outcome (Finished e) UnfinishedEmpty n end = absurd (omega (arith, n))
same_outcome NothingFits (Finished e') n end = absurd (omega (arith, n))
same_outcome NothingFits NothingFits n end = refl
same_outcome NothingFits (Unfinished e') n end = absurd (omega (arith, n))
same_outcome NothingFits UnfinishedEmpty n end = absurd (omega (arith, n))
same_outcome (Unfinished e) (Finished e') n end = absurd (omega (arith, n))
same_outcome (Unfinished e) NothingFits n end = absurd (omega (arith, n))
same_outcome (Unfinished e) (Unfinished e') n end = ap Unfinished end
same_outcome (Unfinished e) UnfinishedEmpty n end = absurd (omega (arith, n))
same_outcome UnfinishedEmpty (Finished e') n end = absurd (omega (arith, n))
same_outcome UnfinishedEmpty NothingFits n end = absurd (omega (arith, n))
same_outcome UnfinishedEmpty (Unfinished e') n end = absurd (omega (arith, n))
same_outcome UnfinishedEmpty UnfinishedEmpty n end = refl

-- two answers of the same numbers are equal
pub same_numbers : (a a' : Answer) → a.outcome ≡ a'.outcome → a.bound ≡ a'.bound → a.steps ≡ a'.steps → a.reached ≡ a'.reached → a.ruled ≡ a'.ruled → a ≡ a'
same_numbers a a' ho hb hs hr hx =
    ap (λ (o : Outcome). record { outcome = o; bound = a.bound; steps = a.steps; reached = a.reached; ruled = a.ruled }) ho
    ∙ (ap₂ (λ (b s : ℕ). record { outcome = a'.outcome; bound = b; steps = s; reached = a.reached; ruled = a.ruled }) hb hs
    ∙ ap₂ (λ (r x : ℕ). record { outcome = a'.outcome; bound = a'.bound; steps = a'.steps; reached = r; ruled = x }) hr hx)

-- two replies that are told alike are the same
pub answered_told_whole : (r r' : Result Answer Refusal) → answered_told r ≡ answered_told r' → r ≡ r'
unfolding answered_told
answered_told_whole (Ok a) (Ok a') h =
    ap Ok
    (same_numbers a a'
    (same_outcome a.outcome a'.outcome (ap (λ (t : Told ℕ). get_or t.1 0 0) h) (ap (λ (t : Told ℕ). get_or t.1 1 0) h))
    (ap (λ (t : Told ℕ). get_or t.1 2 0) h) (ap (λ (t : Told ℕ). get_or t.1 3 0) h)
    (ap (λ (t : Told ℕ). get_or t.1 4 0) h) (ap (λ (t : Told ℕ). get_or t.1 5 0) h))
answered_told_whole (Ok a) (Err why) h = absurd (refusal_told_fault why _ _ (sym h))
answered_told_whole (Err why) (Ok a) h = absurd (refusal_told_fault why _ _ h)
answered_told_whole (Err why) (Err why') h = ap Err (refusal_told_whole why why' h)

-- two results that meet the contract of `search` are equal, and leave the same in the buffers
pub same_search : (v : View) (limit : ℕ) (lent : Buffers) (a a' : Result Answer Refusal) (after after' : Buffers) →
    a ≡ search_reply v limit (rooms_of lent) → after ≡ buffers_after v limit lent →
    a' ≡ search_reply v limit (rooms_of lent) → after' ≡ buffers_after v limit lent → (a ≡ a') × (after ≡ after')
same_search v limit lent a a' after after' h k h' k' = (h ∙ sym h', k ∙ sym k')

-- a refusal in reply leaves the buffers as they were
unless_answered : (c : Result Unit Refusal) (a : theory.Answer) (why : Refusal) (before after : Buffers) → reply_to c a ≡ Err why →
    unless_refused c before after ≡ before
unfolding reply_to unless_refused
unless_answered (Err why') a why before after e = refl
unless_answered (Ok _) a why before after e = absurd (let z : ◌≡◌ {A = ℕ} 0 1 = cc in omega arith)

-- a search that is refused leaves the buffers as they were
pub search_refused_keeps : (v : View) (limit : ℕ) (lent : Buffers) (why : Refusal) →
    search_reply v limit (rooms_of lent) ≡ Err why → buffers_after v limit lent ≡ lent
unfolding search_reply buffers_after
search_refused_keeps v limit lent why e =
    unless_answered (check_search v (rooms_of lent)) (searched v limit) why lent (buffers_kept v (searched v limit).best lent) e
