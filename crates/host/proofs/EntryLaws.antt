-- What a program in C may rely on: each call has one answer; it is the library's, with nothing lost; the refusal 0 is an answer; and a
-- refusal leaves every lent buffer as it was.
use Rattle.grid.specs.declared.Frequency.{Frequency}
use Rattle.search.specs.declared.Answer.{Answer}
use Rattle.std.specs.Prelude.{ℕ, ◌*◌, ◌≤◌, true, false, List, [], ◌∷◌, ◌≢◌, ◌≡◌, length, replicate, eqb, ℤ, Option, Some, None, Result, Ok, Err}
use Rattle.std.proofs.Math.Path.{refl, sym, ap}
use Rattle.std.proofs.Common.{ap₂, subst, ◌∙◌, arith}
use Rattle.theory.proofs.TestLaws.{by_test}
use Rattle.theory.specs.Walk.{Best}
use Rattle.refusal.specs.declared.Refusal.{Refusal}
use Rattle.refusal.specs.declared.Refusal.TheVariants.{GroupsOutside}
use Rattle.refusal.specs.Refusal.{number_of}
use Rattle.refusal.specs.RefusalLaws.{same_refusal, some_number}
use Rattle.request.specs.View.{View}
use Rattle.request.specs.Sharing.{problem_of}
use Rattle.request.specs.Check.{check, then, must}
use Rattle.request.proofs.SoundLaws.{check_sound}
use Rattle.request.proofs.LimitsLaws.{sound_limits}
use Rattle.reading.specs.Reading.{FileReading, refused, accepted, read_file}
use Rattle.request.proofs.CheckLaws.{by_check, first_sound}
use Rattle.request.specs.RoundTrip.{Bytes}
use Rattle.writing.specs.RoundTripLaws.{accepted_encodes}
use Rattle.meeting.specs.Bound.{bound_of}
use Rattle.meeting.specs.BoundLaws.{plan_above_bound}
use Rattle.meeting.specs.Plan.{AllowedPlan, end_of_plan}
use Rattle.meeting.specs.Reply.{bound_reply}
use Rattle.meeting.specs.ReplyLaws.{bound_answered}
use Rattle.search.specs.declared.Outcome.{Outcome}
use Rattle.search.specs.declared.Outcome.TheVariants.{Finished, NothingFits, Unfinished, UnfinishedEmpty}
use Rattle.search.specs.Reply as search
use Rattle.groups.specs.declared.Grouped.{Grouped}
use Rattle.groups.specs.Reply as groups
use Rattle.plan.specs.CheckStarts.{starts_reply}
use Rattle.planfile.specs.PlanReading as plan
use Rattle.planfile.proofs.PlanReadingLaws.{plan_request_refused}
use Rattle.columns.specs.Columns.{
  hop_counts,
  route_links,
  link_ends,
  DemandBuffers,
  demand_rooms,
  check_demand_columns,
  check_route_columns,
  demand_reply,
  route_reply,
  demands_over,
}
use Rattle.columns.proofs.ColumnsLaws.{
  demands_sound,
  demands_fit,
  demands_refused_lem,
  demands_written,
  routes_fit,
  routes_refused_lem,
  routes_written,
}
use Rattle.told.specs.declared.LightplanRequest.{LightplanRequest}
use Rattle.told.specs.declared.LightplanRoutes.{LightplanRoutes}
use Rattle.told.specs.RequestTold.{
  request_refused,
  request_told,
  request_after,
  request_entry,
  demands_read,
  routes_refused,
  routes_told,
  routes_entry,
  ends_read,
  hops_read,
  routes_read,
}
use Rattle.told.specs.ToldLaws.{same_request_told, same_routes_told}
use Rattle.host.specs.declared.LightplanAnswer.{LightplanAnswer}
use Rattle.host.specs.declared.LightplanGrouped.{LightplanGrouped}
use Rattle.host.specs.declared.LightplanVerdict.{LightplanVerdict}
use Rattle.host.specs.declared.LightplanFrequency.{LightplanFrequency}
use Rattle.search.specs.Reply.{outcome_number}
use Rattle.host.specs.Host.{
  version,
  answer_refused,
  search_told,
  answer_entry,
  buffers_searched,
  grouped_refused,
  outcome_told,
  grouped_told,
  grouped_entry,
  starts_grouped,
  blockers_grouped,
  verdict_refused,
  which_of,
  check_told,
  verdict_entry,
  starts_read,
  starts_entry,
  frequency_told,
  frequency_entry,
}
use Rattle.lent.specs.Lent.{check_rooms, unless_refused, over, write_answer}
use Rattle.lent.specs.LentLaws.{room_enough, rooms_with, rooms_none}
use Rattle.search.specs.ReplyLaws.{same_outcome, same_numbers}

-- ---- one answer

-- two results of `lightplan_version` are equal
pub same_version : (r r' : ℕ) → r ≡ version → r' ≡ version → r ≡ r'
same_version r r' h h' = h ∙ sym h'

-- two results of `lightplan_read` are equal, and leave the same in the buffers
pub same_request : (file : List ℕ) (lent : DemandBuffers) (r r' : LightplanRequest) (after after' : DemandBuffers) →
    r ≡ request_entry (read_file file) (demand_rooms lent) → r' ≡ request_entry (read_file file) (demand_rooms lent) →
    after ≡ demands_read (read_file file) lent → after' ≡ demands_read (read_file file) lent → (r ≡ r') × (after ≡ after')
same_request = same_request_told

-- two results of `lightplan_read_routes` are equal
pub same_routes : (file ends hops routes : List ℕ) (r r' : LightplanRoutes) (e e' h h' t t' : List ℕ) →
    r ≡ routes_entry (read_file file) (length ends) (length hops) (length routes) →
    r' ≡ routes_entry (read_file file) (length ends) (length hops) (length routes) →
    e ≡ ends_read (read_file file) ends hops routes → e' ≡ ends_read (read_file file) ends hops routes →
    h ≡ hops_read (read_file file) ends hops routes → h' ≡ hops_read (read_file file) ends hops routes →
    t ≡ routes_read (read_file file) ends hops routes → t' ≡ routes_read (read_file file) ends hops routes →
    (r ≡ r') × (e ≡ e') × (h ≡ h') × (t ≡ t')
same_routes = same_routes_told

-- two results of `lightplan_search` are equal, and leave the same in the buffers
pub same_answer : (file : List ℕ) (limit : ℕ) (lent : search.Buffers) (r r' : LightplanAnswer) (after after' : search.Buffers) →
    r ≡ answer_entry (read_file file) limit (search.rooms_of lent) → r' ≡ answer_entry (read_file file) limit (search.rooms_of lent) →
    after ≡ buffers_searched (read_file file) limit lent → after' ≡ buffers_searched (read_file file) limit lent →
    (r ≡ r') × (after ≡ after')
same_answer file limit lent r r' after after' hr hr' ha ha' = (hr ∙ sym hr', ha ∙ sym ha')

-- two results of `lightplan_groups` are equal, and leave the same in the buffers
pub same_grouped : (file : List ℕ) (M : ℕ) (starts blockers : List ℕ) (r r' : LightplanGrouped) (s s' b b' : List ℕ) →
    r ≡ grouped_entry (read_file file) M (length starts ∷ length blockers ∷ []) →
    r' ≡ grouped_entry (read_file file) M (length starts ∷ length blockers ∷ []) →
    s ≡ starts_grouped (read_file file) M (length starts ∷ length blockers ∷ []) starts →
    s' ≡ starts_grouped (read_file file) M (length starts ∷ length blockers ∷ []) starts →
    b ≡ blockers_grouped (read_file file) M (length starts ∷ length blockers ∷ []) blockers →
    b' ≡ blockers_grouped (read_file file) M (length starts ∷ length blockers ∷ []) blockers →
    (r ≡ r') × (s ≡ s') × (b ≡ b')
same_grouped file M starts blockers r r' s s' b b' hr hr' hs hs' hb hb' = (hr ∙ sym hr', hs ∙ sym hs', hb ∙ sym hb')

-- two results of `lightplan_check` are equal
pub same_verdict : (file plan starts : List ℕ) (r r' : LightplanVerdict) (s s' : List ℕ) →
    r ≡ verdict_entry (read_file file) plan (length starts) → r' ≡ verdict_entry (read_file file) plan (length starts) →
    s ≡ starts_read (read_file file) plan starts → s' ≡ starts_read (read_file file) plan starts → (r ≡ r') × (s ≡ s')
same_verdict file plan starts r r' s s' hr hr' hs hs' = (hr ∙ sym hr', hs ∙ sym hs')

-- two results of `lightplan_check_starts` are equal
pub same_starts_verdict : (file starts : List ℕ) (r r' : LightplanVerdict) →
    r ≡ starts_entry (read_file file) starts → r' ≡ starts_entry (read_file file) starts → r ≡ r'
same_starts_verdict file starts r r' h h' = h ∙ sym h'

-- two results of `lightplan_frequency` are equal
pub same_frequency : (n0 : ℤ) (S G s w : ℕ) (r r' : LightplanFrequency) →
    r ≡ frequency_entry n0 S G s w → r' ≡ frequency_entry n0 S G s w → r ≡ r'
same_frequency n0 S G s w r r' h h' = h ∙ sym h'

-- ---- the library's answer

-- a file that is refused: the reader's refusal, whatever the call
module _ (file : List ℕ) (why : Refusal) (read : read_file file ≡ refused why) where
  pub read_refused : (rooms : List ℕ) → request_entry (read_file file) rooms ≡ request_refused why
  unfolding request_entry
  read_refused rooms = ap (λ (r : FileReading). request_entry r rooms) read

  pub read_routes_refused : (a b c : ℕ) → routes_entry (read_file file) a b c ≡ routes_refused why
  unfolding routes_entry
  read_routes_refused a b c = ap (λ (r : FileReading). routes_entry r a b c) read

  pub search_refused : (limit : ℕ) (rooms : List ℕ) → answer_entry (read_file file) limit rooms ≡ answer_refused why
  unfolding answer_entry
  search_refused limit rooms = ap (λ (r : FileReading). answer_entry r limit rooms) read

  pub groups_refused : (M : ℕ) (rooms : List ℕ) → grouped_entry (read_file file) M rooms ≡ grouped_refused why
  unfolding grouped_entry
  groups_refused M rooms = ap (λ (r : FileReading). grouped_entry r M rooms) read

  pub check_refused : (plan : List ℕ) (room : ℕ) → verdict_entry (read_file file) plan room ≡ verdict_refused 1 why
  unfolding verdict_entry
  check_refused plan room = ap (λ (r : FileReading). verdict_entry r plan room) read

  pub check_starts_refused : (starts : List ℕ) → starts_entry (read_file file) starts ≡ verdict_refused 1 why
  unfolding starts_entry
  check_starts_refused starts = ap (λ (r : FileReading). starts_entry r starts) read

-- a plan of groups is told beside the bound
outcome_beside : (need M : ℕ) (best : Option Grouped) → (outcome_told need M best).outcome ≡ 1 → (outcome_told need M best).bound ≡ need
unfolding outcome_told
outcome_beside need M (Some plan) h = refl
outcome_beside need M None h = absurd (omega (arith, h))

bound_beside : (need M : ℕ) (reply : Result (Option Grouped) Refusal) → (grouped_told (Ok need) M reply).outcome ≡ 1 →
    (grouped_told (Ok need) M reply).bound ≡ need
unfolding grouped_told grouped_refused
bound_beside need M (Ok best) h = outcome_beside need M best h
bound_beside need M (Err why) h = absurd (omega (arith, h))

-- a file of a request: what the library's call answers for that request, and the buffers as it leaves them
module _ (file : List ℕ) (v : View) (bytes : Bytes file) (read : read_file file ≡ accepted v) where
  -- the request is sound, and keeps its limits
  sound : check v ≡ Ok tt
  sound = (accepted_encodes file v bytes read).sound

  links_there : length v.links ≡ v.link_count
  links_there =
      let parts = accepted_encodes file v bytes read in
      parts.counted.links_counted (check_sound v parts.counted sound).at_most_64_links

  demands_there : length v.demands ≡ v.demand_count
  demands_there =
      let parts = accepted_encodes file v bytes read in
      parts.counted.demands_counted (check_sound v parts.counted sound).at_most_200_demands

  -- so its bound is answered
  bounded : bound_reply v ≡ Ok (bound_of v)
  bounded = sym (bound_answered v (bound_of v) sound refl)

  -- with room in each buffer: the request with its bound, and the columns of its demands
  pub read_answers : (lent : DemandBuffers) → v.demand_count ≤ length lent.idents → v.demand_count ≤ length lent.widths →
      v.demand_count ≤ length lent.rates →
      (request_entry (read_file file) (demand_rooms lent) ≡ request_told (Ok (bound_of v)) v) ×
      (demands_read (read_file file) lent ≡ demands_over v.demands lent)
  unfolding request_entry request_after demands_read demand_rooms
  read_answers lent h k l =
      let roomy = rooms_with _ _ _ h (rooms_with _ _ _ k (rooms_with _ _ _ l (rooms_none v.demand_count))) in
      let told = demands_written v lent (demands_fit v (demand_rooms lent) sound ∙ roomy) in (
        ap (λ (r : FileReading). request_entry r (demand_rooms lent)) read
            ∙ (ap (λ (a : Result ℕ Refusal). request_after a v) (sym told.0) ∙ ap (λ (b : Result ℕ Refusal). request_told b v) bounded),
        ap (λ (r : FileReading). demands_read r lent) read ∙ sym told.1,
      )

  -- with room in all three buffers: how many links, demands and links of routes there are, and the three columns
  pub read_routes_answers : (e h r : List ℕ) → 2 * v.link_count ≤ length e → v.demand_count ≤ length h →
      length (route_links v.demands) ≤ length r →
      (routes_entry (read_file file) (length e) (length h) (length r) ≡ routes_told (Ok (length (route_links v.demands))) v) ×
      (ends_read (read_file file) e h r ≡ over (link_ends v.links) e) ×
      (hops_read (read_file file) e h r ≡ over (hop_counts v.demands) h) ×
      (routes_read (read_file file) e h r ≡ over (route_links v.demands) r)
  unfolding routes_entry ends_read hops_read routes_read
  read_routes_answers e h r a b c =
      let enough =
      routes_fit v (length e) (length h) (length r) v.link_count v.demand_count (length (route_links v.demands))
      sound links_there demands_there refl (Ok tt)
      (sym (room_enough _ _ a)) (sym (room_enough _ _ b)) (sym (room_enough _ _ c)) in
      let told = routes_written v e h r enough in (
        ap (λ (f : FileReading). routes_entry f (length e) (length h) (length r)) read
            ∙ ap (λ (x : Result ℕ Refusal). routes_told x v) (sym told.0),
        ap (λ (f : FileReading). ends_read f e h r) read ∙ sym told.1.0,
        ap (λ (f : FileReading). hops_read f e h r) read ∙ sym told.1.1.0,
        ap (λ (f : FileReading). routes_read f e h r) read ∙ sym told.1.1.1,
      )

  pub search_answers : (limit : ℕ) (lent : search.Buffers) →
      (answer_entry (read_file file) limit (search.rooms_of lent) ≡ search_told (search.search_reply v limit (search.rooms_of lent))) ×
      (buffers_searched (read_file file) limit lent ≡ search.buffers_after v limit lent)
  unfolding answer_entry buffers_searched
  search_answers limit lent = (
    ap (λ (r : FileReading). answer_entry r limit (search.rooms_of lent)) read,
    ap (λ (r : FileReading). buffers_searched r limit lent) read,
  )

  pub groups_answer : (M : ℕ) (rooms starts blockers : List ℕ) →
      (grouped_entry (read_file file) M rooms ≡ grouped_told (Ok (bound_of v)) M (groups.groups_reply v M rooms)) ×
      (starts_grouped (read_file file) M rooms starts ≡ groups.groups_starts v M rooms starts) ×
      (blockers_grouped (read_file file) M rooms blockers ≡ groups.groups_blockers v M rooms blockers)
  unfolding grouped_entry starts_grouped blockers_grouped
  groups_answer M rooms starts blockers = (
    ap (λ (r : FileReading). grouped_entry r M rooms) read ∙ ap (λ (b : Result ℕ Refusal). grouped_told b M (groups.groups_reply v M rooms)) bounded,
    ap (λ (r : FileReading). starts_grouped r M rooms starts) read,
    ap (λ (r : FileReading). blockers_grouped r M rooms blockers) read,
  )

  -- a plan of groups that ends at the bound ends no higher than any plan that is allowed
  pub grouped_at_the_bound : (M : ℕ) (rooms : List ℕ) → (grouped_entry (read_file file) M rooms).outcome ≡ 1 →
      (grouped_entry (read_file file) M rooms).end ≡ (grouped_entry (read_file file) M rooms).bound →
      (others : List ℕ) → AllowedPlan v others → (grouped_entry (read_file file) M rooms).end ≤ end_of_plan v others
  grouped_at_the_bound M rooms found at_bound others allowed =
      let told = (groups_answer M rooms [] []).0 in
      let parts = accepted_encodes file v bytes read in
      let limits = sound_limits v parts.counted (check_sound v parts.counted sound) in
      let bound =
      bound_beside (bound_of v) M (groups.groups_reply v M rooms) (sym (ap (λ (g : LightplanGrouped). g.outcome) told) ∙ found) in
      subst (λ (e : ℕ). e ≤ end_of_plan v others) (sym (at_bound ∙ (ap (λ (g : LightplanGrouped). g.bound) told ∙ bound)))
      (plan_above_bound v (check_sound v parts.counted sound) limits.demands_there limits.routes_there others allowed)

  pub check_answers : (file' starts : List ℕ) →
      (verdict_entry (read_file file) file' (length starts)
      ≡ check_told (Ok (bound_of v)) (plan.plan_reply v (plan.read_plan_file v file' (length starts)))) ×
      (starts_read (read_file file) file' starts ≡ plan.plan_starts (plan.read_plan_file v file' (length starts)) starts)
  unfolding verdict_entry starts_read
  check_answers file' starts = (
    ap (λ (r : FileReading). verdict_entry r file' (length starts)) read
        ∙ ap (λ (b : Result ℕ Refusal). check_told b (plan.plan_reply v (plan.read_plan_file v file' (length starts)))) bounded,
    ap (λ (r : FileReading). starts_read r file' starts) read,
  )

  pub check_starts_answers : (starts : List ℕ) →
      starts_entry (read_file file) starts ≡ check_told (Ok (bound_of v)) (starts_reply v starts)
  unfolding starts_entry
  check_starts_answers starts =
      ap (λ (r : FileReading). starts_entry r starts) read ∙ ap (λ (b : Result ℕ Refusal). check_told b (starts_reply v starts)) bounded

-- ---- nothing is lost

-- two replies of the search that a C program is told alike are equal
pub search_told_whole : (r r' : Result Answer Refusal) → search_told r ≡ search_told r' → r ≡ r'
unfolding search_told answer_refused
search_told_whole (Ok a) (Ok a') h =
    ap Ok
    (same_numbers a a'
    (same_outcome a.outcome a'.outcome (ap (λ (e : LightplanAnswer). e.outcome) h) (ap (λ (e : LightplanAnswer). e.end) h))
    (ap (λ (e : LightplanAnswer). e.bound) h) (ap (λ (e : LightplanAnswer). e.steps) h)
    (ap (λ (e : LightplanAnswer). e.reached) h) (ap (λ (e : LightplanAnswer). e.ruled) h))
search_told_whole (Ok a) (Err why) h =
    absurd (omega (arith, ap (λ (e : LightplanAnswer). e.refusal) h, some_number why))
search_told_whole (Err why) (Ok a) h =
    absurd (omega (arith, ap (λ (e : LightplanAnswer). e.refusal) h, some_number why))
search_told_whole (Err why) (Err why') h =
    ap Err
    (same_refusal why why' (ap (λ (e : LightplanAnswer). e.refusal) h) (ap (λ (e : LightplanAnswer). e.place) h))

-- what is answered of the best order is no refusal
answered_no_refusal : (v : View) (best : Best) (why : Refusal) → groups.reply_after (Ok tt) (groups.best_reply (problem_of v) best) ≢ Err why
unfolding groups.reply_after
answered_no_refusal v best why h = absurd (let z : ◌≡◌ {A = ℕ} 0 1 = cc in omega arith)

-- a refusal of groups is told with no entry in its order
refused_order : (v : View) (need M : ℕ) (rooms : List ℕ) (why : Refusal) → groups.groups_reply v M rooms ≡ Err why →
    (grouped_told (Ok need) M (groups.groups_reply v M rooms)).order ≡ replicate 8 0
unfolding grouped_told grouped_refused
refused_order v need M rooms why h = ap (λ (r : Result (Option Grouped) Refusal). (grouped_told (Ok need) M r).order) h

-- two outcomes of groups that are told alike are the same, with the same order
outcomes_told_whole : (best best' : Option Grouped) (need M M' : ℕ) → outcome_told need M best ≡ outcome_told need M' best' → best ≡ best'
unfolding outcome_told
outcomes_told_whole (Some plan) (Some plan') need M M' h =
    ap₂ (λ (e : ℕ) (order : List ℕ). Some (record { end = e; order = order }))
    (ap (λ (g : LightplanGrouped). g.end) h) (ap (λ (g : LightplanGrouped). g.order) h)
outcomes_told_whole (Some plan) None need M M' h = absurd (omega (arith, ap (λ (g : LightplanGrouped). g.outcome) h))
outcomes_told_whole None (Some plan) need M M' h = absurd (omega (arith, ap (λ (g : LightplanGrouped). g.outcome) h))
outcomes_told_whole None None need M M' h = refl

-- and so are two replies of groups, for whatever requests
pub grouped_told_whole : (r r' : Result (Option Grouped) Refusal) (M M' need : ℕ) →
    grouped_told (Ok need) M r ≡ grouped_told (Ok need) M' r' → r ≡ r'
unfolding grouped_told outcome_told grouped_refused
grouped_told_whole (Ok best) (Ok best') M M' need h = ap Ok (outcomes_told_whole best best' need M M' h)
grouped_told_whole (Ok (Some plan)) (Err why) M M' need h =
    absurd (omega (arith, ap (λ (g : LightplanGrouped). g.refusal) h, some_number why))
grouped_told_whole (Ok None) (Err why) M M' need h =
    absurd (omega (arith, ap (λ (g : LightplanGrouped). g.refusal) h, some_number why))
grouped_told_whole (Err why) (Ok (Some plan)) M M' need h =
    absurd (omega (arith, ap (λ (g : LightplanGrouped). g.refusal) h, some_number why))
grouped_told_whole (Err why) (Ok None) M M' need h =
    absurd (omega (arith, ap (λ (g : LightplanGrouped). g.refusal) h, some_number why))
grouped_told_whole (Err why) (Err why') M M' need h =
    ap Err (same_refusal why why' (ap (λ (g : LightplanGrouped). g.refusal) h) (ap (λ (g : LightplanGrouped). g.place) h))

-- and so are two replies of a check
pub check_told_whole : (r r' : Result ℕ Refusal) (need : ℕ) →
    check_told (Ok need) r ≡ check_told (Ok need) r' → r ≡ r'
unfolding check_told verdict_refused
check_told_whole (Ok e) (Ok e') need h =
    ap Ok (ap (λ (e : LightplanVerdict). e.end) h)
check_told_whole (Ok e) (Err why) need h =
    absurd (omega (arith, ap (λ (e : LightplanVerdict). e.refusal) h, some_number why))
check_told_whole (Err why) (Ok e) need h =
    absurd (omega (arith, ap (λ (e : LightplanVerdict). e.refusal) h, some_number why))
check_told_whole (Err why) (Err why') need h =
    ap Err
    (same_refusal why why' (ap (λ (e : LightplanVerdict). e.refusal) h) (ap (λ (e : LightplanVerdict). e.place) h))

-- what was refused of a request file that is accepted is the plan, or the buffer, and never the request: that is told as 1 alone
pub plan_told_apart : (r : Result ℕ Refusal) (need : ℕ) → (check_told (Ok need) r).which ≢ 1
unfolding check_told verdict_refused which_of
plan_told_apart (Ok e) need h = absurd (omega (arith, h))
plan_told_apart (Err why) need h =
    by_test (eqb (number_of why) 10)
    (λ (ten : eqb (number_of why) 10 ≡ true). let z : ◌≡◌ {A = ℕ} 3 1 = rw ten at h in absurd (omega (arith, z)))
    (λ (other : eqb (number_of why) 10 ≡ false). let z : ◌≡◌ {A = ℕ} 2 1 = rw other at h in absurd (omega (arith, z)))

-- an outcome is never 0
some_outcome : (o : Outcome) → 1 ≤ outcome_number o
unfolding outcome_number
some_outcome (Finished e) = omega arith
some_outcome NothingFits = omega arith
some_outcome (Unfinished e) = omega arith
some_outcome UnfinishedEmpty = omega arith

-- so an answer is told with one of the four, and a refusal with none: a struct of zeros tells of no outcome
pub answer_has_outcome : (r : Result Answer Refusal) → (search_told r).refusal ≡ 0 → 1 ≤ (search_told r).outcome
unfolding search_told answer_refused
answer_has_outcome (Ok a) h = some_outcome a.outcome
answer_has_outcome (Err why) h = absurd (omega (arith, h, some_number why))

pub refusal_has_none : (r : Result Answer Refusal) → (search_told r).refusal ≢ 0 → (search_told r).outcome ≡ 0
unfolding search_told answer_refused
refusal_has_none (Ok a) h = absurd (h refl)
refusal_has_none (Err why) h = refl

some_grouping : (best : Option Grouped) (need M : ℕ) → (outcome_told need M best).refusal ≡ 0 → 1 ≤ (outcome_told need M best).outcome
unfolding outcome_told
some_grouping (Some plan) need M h = omega arith
some_grouping None need M h = omega arith

no_grouping : (best : Option Grouped) (need M : ℕ) → (outcome_told need M best).refusal ≢ 0 → (outcome_told need M best).outcome ≡ 0
unfolding outcome_told
no_grouping (Some plan) need M h = absurd (h refl)
no_grouping None need M h = absurd (h refl)

-- alike of groups: an answer has an outcome, and a refusal none
pub grouped_has_outcome : (r : Result (Option Grouped) Refusal) (need M : ℕ) → (grouped_told (Ok need) M r).refusal ≡ 0 →
    1 ≤ (grouped_told (Ok need) M r).outcome
unfolding grouped_told grouped_refused
grouped_has_outcome (Ok best) need M h = some_grouping best need M h
grouped_has_outcome (Err why) need M h = absurd (omega (arith, h, some_number why))

pub ungrouped_has_none : (r : Result (Option Grouped) Refusal) (need M : ℕ) → (grouped_told (Ok need) M r).refusal ≢ 0 →
    (grouped_told (Ok need) M r).outcome ≡ 0
unfolding grouped_told grouped_refused
ungrouped_has_none (Ok best) need M h = no_grouping best need M h
ungrouped_has_none (Err why) need M h = refl

-- and two replies of the grid
pub frequency_told_whole : (r r' : Result Frequency Refusal) → frequency_told r ≡ frequency_told r' → r ≡ r'
unfolding frequency_told
frequency_told_whole (Ok f) (Ok f') h =
    ap (λ (e : LightplanFrequency). Ok (record { n = e.n; m = e.m; mhz = e.mhz })) h
frequency_told_whole (Ok f) (Err why) h =
    absurd (omega (arith, ap (λ (e : LightplanFrequency). e.refusal) h, some_number why))
frequency_told_whole (Err why) (Ok f) h =
    absurd (omega (arith, ap (λ (e : LightplanFrequency). e.refusal) h, some_number why))
frequency_told_whole (Err why) (Err why') h =
    ap Err
    (same_refusal why why' (ap (λ (e : LightplanFrequency). e.refusal) h) (ap (λ (e : LightplanFrequency). e.place) h))

-- ---- a refusal leaves every lent buffer as it was

-- a plan that is refused leaves the starts as they were
plan_refused_keeps : (v : View) (starts : List ℕ) (read : plan.PlanReading) →
    (check_told (Ok (bound_of v)) (plan.plan_reply v read)).refusal ≢ 0 →
    plan.plan_starts read starts ≡ starts
unfolding check_told plan.plan_reply plan.plan_starts
plan_refused_keeps v starts (plan.refused why) h = refl
plan_refused_keeps v starts (plan.accepted found) h = absurd (h refl)

pub read_refused_keeps : (read : FileReading) (lent : DemandBuffers) → (request_entry read (demand_rooms lent)).refusal ≢ 0 →
    demands_read read lent ≡ lent
unfolding request_entry request_after request_told demands_read demand_reply write_answer
read_refused_keeps (refused why) lent h = refl
read_refused_keeps (accepted v) lent h =
    let tests = check_demand_columns v (demand_rooms lent) in
    by_check tests
    (λ (passed : tests ≡ Ok tt).
    let bounded : bound_reply v ≡ Ok (bound_of v)
    = sym (bound_answered v (bound_of v) (demands_sound v (demand_rooms lent) passed) refl) in
    absurd (h (ap (λ (c : Result Unit Refusal). (request_after (write_answer c v.demand_count) v).refusal) passed
    ∙ ap (λ (b : Result ℕ Refusal). (request_told b v).refusal) bounded)))
    (λ (why : Refusal) (failed : tests ≡ Err why). sym (demands_refused_lem v lent why failed).1)

pub read_routes_refused_keeps : (read : FileReading) (e h r : List ℕ) → (routes_entry read (length e) (length h) (length r)).refusal ≢ 0 →
    (ends_read read e h r ≡ e) × (hops_read read e h r ≡ h) × (routes_read read e h r ≡ r)
unfolding routes_entry routes_told ends_read hops_read routes_read route_reply write_answer
read_routes_refused_keeps (refused why) e h r n = (refl, refl, refl)
read_routes_refused_keeps (accepted v) e h r n =
    let tests = check_route_columns v (length e) (length h) (length r) in
    by_check tests
    (λ (passed : tests ≡ Ok tt).
    absurd (n (ap (λ (c : Result Unit Refusal). (routes_told (write_answer c (length (route_links v.demands))) v).refusal) passed)))
    (λ (why : Refusal) (failed : tests ≡ Err why).
    let kept = routes_refused_lem v e h r why failed in (sym kept.1.0, sym kept.1.1.0, sym kept.1.1.1))

pub search_refused_keeps : (read : FileReading) (limit : ℕ) (lent : search.Buffers) →
    (answer_entry read limit (search.rooms_of lent)).refusal ≢ 0 → buffers_searched read limit lent ≡ lent
unfolding answer_entry search_told buffers_searched search.search_reply search.reply_to search.buffers_after unless_refused
search_refused_keeps (refused why) limit lent h = refl
search_refused_keeps (accepted v) limit lent h =
    let tests = search.check_search v (search.rooms_of lent) in
    by_check tests
    (λ (passed : tests ≡ Ok tt).
    absurd (h (ap (λ (c : Result Unit Refusal). (search_told (search.reply_to c (search.searched v limit))).refusal) passed)))
    (λ (why : Refusal) (failed : tests ≡ Err why). rw failed)

-- what passes the tests of groups is sound
groups_sound : (v : View) (M : ℕ) (rooms : List ℕ) → groups.check_groups v M rooms ≡ Ok tt → check v ≡ Ok tt
unfolding groups.check_groups
groups_sound v M rooms h =
    first_sound (check v) (then (check_rooms v.demand_count rooms) (must (groups.groupable v.demand_count M) (GroupsOutside M))) h

-- a reply of groups that is no refusal is told as none
told_none : (best : Option Grouped) (need M : ℕ) → (grouped_told (Ok need) M (Ok best)).refusal ≡ 0
unfolding grouped_told outcome_told
told_none (Some plan) need M = refl
told_none None need M = refl

pub groups_refused_keep : (read : FileReading) (M : ℕ) (rooms starts blockers : List ℕ) → (grouped_entry read M rooms).refusal ≢ 0 →
    (starts_grouped read M rooms starts ≡ starts) × (blockers_grouped read M rooms blockers ≡ blockers)
unfolding grouped_entry starts_grouped blockers_grouped unless_refused
    groups.groups_reply groups.reply_after groups.groups_starts groups.groups_blockers
groups_refused_keep (refused why) M rooms starts blockers h = (refl, refl)
groups_refused_keep (accepted v) M rooms starts blockers h =
    let tests = groups.check_groups v M rooms in
    by_check tests
    (λ (passed : tests ≡ Ok tt).
    let bounded : bound_reply v ≡ Ok (bound_of v) = sym (bound_answered v (bound_of v) (groups_sound v M rooms passed) refl) in
    let told : Option Grouped = groups.best_reply (problem_of v) (groups.grouped v M) in
    absurd (h (ap (λ (c : Result Unit Refusal). (grouped_told (bound_reply v) M (groups.reply_after c told)).refusal) passed
    ∙ (ap (λ (b : Result ℕ Refusal). (grouped_told b M (Ok told)).refusal) bounded ∙ told_none told (bound_of v) M))))
    (λ (why : Refusal) (failed : tests ≡ Err why). (rw failed, rw failed))

pub check_refused_keeps : (read : FileReading) (file starts : List ℕ) → (verdict_entry read file (length starts)).refusal ≢ 0 →
    starts_read read file starts ≡ starts
unfolding verdict_entry starts_read plan.plan_starts
check_refused_keeps (refused why) file starts h = refl
check_refused_keeps (accepted v) file starts h =
    by_check (check v)
    (λ (passed : check v ≡ Ok tt).
    let bounded : Ok (bound_of v) ≡ bound_reply v = bound_answered v (bound_of v) passed refl in
    plan_refused_keeps v starts (plan.read_plan_file v file (length starts)) (rw (← bounded) at h))
    (λ (why : Refusal) (failed : check v ≡ Err why).
    ap (λ (read : plan.PlanReading). plan.plan_starts read starts) (plan_request_refused v file (length starts) why failed))
