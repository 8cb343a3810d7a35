-- The promises of first fit, over requests: what a plan, its blockers and a refusal with 13 mean.
use Prim.Native.Nat.{ℕ, ◌+◌, ◌-◌, ◌≤◌, ◌<◌}
use Rattle.std.proofs.Math.Bool.{false}
use mathlib.Core.List.{List, [], ◌∷◌, Memᴰ}
use Rattle.std.specs.Prelude.{◌⊎◌, ◌≡◌, refl, length, get_or, drop, Result, Ok, Err}
use Rattle.std.proofs.Common.{inl, inr, ◌∙◌, arith, length-append, length-drop, get_or-drop}
use Rattle.std.proofs.Math.Path.{sym, ap, subst}
use Rattle.std.proofs.Math.ListN.{get_or-append}
use Rattle.refusal.specs.declared.Refusal.{Refusal}
use Rattle.refusal.specs.declared.Refusal.TheVariants.{NoStart}
use Rattle.refusal.specs.Refusal.{number_of, place_of}
use Rattle.refusal.specs.Told.{Told, refusal_told}
use Rattle.theory.specs.Blocker.{blocker_at, blocker_in}
use Rattle.theory.specs.Problem.{Row, fits, fill, top, start_in, Fitted, placed, refused}
use Rattle.theory.proofs.ProblemLaws.{end_is, top_nil}
use Rattle.theory.proofs.TestLaws.{not_true_false}
use Rattle.theory.proofs.FillLaws.{fill_allowed, fill_plan_end}
use Rattle.theory.proofs.FirstFitLaws.{placed_fill, placed_top, none_fits, refused_at}
use Rattle.theory.proofs.AlikeLaws.{plan_end_alike, allowed_alike}
use Rattle.theory.specs.Arrange.{Arrange}
use Rattle.theory.proofs.ArrangeLaws.{arrange_mem, arrange_no_repeats}
use Rattle.theory.specs.Earlier.{NoRepeats}
use Rattle.theory.specs.Orders.{listing}
use Rattle.theory.proofs.ListingLaws.{listing_below, listing_no_repeats}
use Rattle.request.specs.declared.Request.{Request}
use Rattle.request.specs.View.{View, view}
use Rattle.request.specs.Check.{then, check}
use Rattle.request.proofs.CheckLaws.{first_sound, next_sound}
use Rattle.request.specs.Told.{checked_told}
use Rattle.request.specs.Whole.{Whole}
use Rattle.request.proofs.LimitsLaws.{checked_limits}
use Rattle.request.proofs.SoundLaws.{width_inside}
use Rattle.placing.specs.declared.Unplaced.{Unplaced}
use Rattle.placing.specs.declared.Unplaced.TheVariants as unplaced
use Rattle.request.specs.Sharing.{problem_of}
use Rattle.meeting.specs.Plan.{start_at, AllowedPlan, end_of_plan, starts_of}
use Rattle.meeting.specs.PlanLaws.{ends_to_slots}
use Rattle.meeting.specs.PlanEndLaws.{plan_end_is}
use Rattle.meeting.specs.MeetingLaws.{joined_swap, start_listed, starts_long}
use Rattle.lent.specs.Lent.{check_rooms, over}
use Rattle.lent.specs.LentLaws.{rooms_held, rest_kept}
use Rattle.placing.specs.FirstFit.{check_order, check_first_fit, fitted, fitted_reply, placed_after, first_fit_reply, fitted_starts, fitted_blockers, first_fit_starts, first_fit_blockers, blocker_entry, blockers_of, placed_told}
use Rattle.placing.proofs.OrderLaws.{order_arranges}
use Rattle.placing.proofs.FirstFitLaws.{fitted_writes, fitted_names, fitting_tested, blockers_long, blocker_listed, placed_told_whole}
use Rattle.placing.specs.LowestFree.{InTheWay, FrontWritten, PlanGiven, NoStartFree}
use Rattle.placing.proofs.LowestFreeLaws.{front_once, before_clashes, before_blocked, each_lowest, each_blocked}

-- a plan's end in reply: the tests passed, and it is the reply to the fitting
pub end_given : (c : Result Unit Refusal) (reply : Result ℕ Unplaced) (end : ℕ) → placed_after c reply ≡ Ok end →
    (c ≡ Ok tt) × (reply ≡ Ok end)
unfolding placed_after
end_given (Ok _) reply end e = (refl, e)
end_given (Err why) reply end e = absurd (let z : ◌≡◌ {A = ℕ} 0 1 = cc in omega arith)

-- an index behind the first K
apart_by : (K k : ℕ) → K ≤ k → k ≡ K + (k - K)
apart_by K k h = omega arith

-- K entries at the front of a buffer that has room for them leave the rest
front_written : (K : ℕ) (front buffer after : List ℕ) → length front ≡ K → K ≤ length buffer → after ≡ over front buffer → FrontWritten K buffer after
unfolding over
front_written K front buffer after long room is =
    record {
      as_long =
          ap length is
          ∙ length-append front (drop (length front) buffer)
          ∙ omega (arith, long, length-drop (length front) buffer, room);
      behind_kept =
          λ k h.
          ap (λ (n : ℕ). get_or after n 0) (apart_by K k h)
          ∙ sym (get_or-drop K after (k - K) 0)
          ∙ ap (λ (l : List ℕ). get_or l (k - K) 0) (ap (drop K) is ∙ rest_kept K front buffer long)
          ∙ get_or-drop K buffer (k - K) 0
          ∙ ap (λ (n : ℕ). get_or buffer n 0) (sym (apart_by K k h));
    }

-- an entry of the front
front_entry : (front buffer after : List ℕ) (j : ℕ) → j < length front → after ≡ over front buffer → get_or after j 0 ≡ get_or front j 0
unfolding over
front_entry front buffer after j h is =
    ap (λ (l : List ℕ). get_or l j 0) is ∙ get_or-append front (drop (length front) buffer) 0 j h

module _ (v : View) (order rooms : List ℕ) (tested : check_first_fit v order rooms ≡ Ok tt) where
  -- what the tests leave to know
  pub request_sound : check v ≡ Ok tt
  unfolding check_first_fit
  request_sound = first_sound (check v) (then (check_order v.demand_count order) (check_rooms v.demand_count rooms)) tested

  order_and_rooms : then (check_order v.demand_count order) (check_rooms v.demand_count rooms) ≡ Ok tt
  unfolding check_first_fit
  order_and_rooms = next_sound (check v) (then (check_order v.demand_count order) (check_rooms v.demand_count rooms)) tested

  pub order_sound : check_order v.demand_count order ≡ Ok tt
  order_sound = first_sound (check_order v.demand_count order) (check_rooms v.demand_count rooms) order_and_rooms

  -- each buffer has room
  pub room_enough : (room : ℕ) → Memᴰ room rooms → v.demand_count ≤ room
  room_enough =
      rooms_held v.demand_count rooms
      (next_sound (check_order v.demand_count order) (check_rooms v.demand_count rooms) order_and_rooms)

  -- the order lists each listing position once
  arranged : Arrange order (listing v.demand_count)
  arranged = order_arranges v.demand_count order order_sound

  pub order_once : NoRepeats order
  order_once = arrange_no_repeats order (listing v.demand_count) arranged (listing_no_repeats v.demand_count)

  -- first fit refused at a demand: no start is free for it, and who is in the way at the last one is named
  refused_means : (rows : List Row) (i : ℕ) → fitted v order ≡ refused rows i →
      NoStartFree v order i (blocker_entry (blocker_at (problem_of v) rows i (v.band.slots - (problem_of v).width i)))
  unfolding fitted problem_of
  refused_means rows i out =
      let (before, after, split, rows_are, fine, above) = refused_at (problem_of v) v.band.slots [] order rows i out in
      let once : NoRepeats before = front_once before (i ∷ after) (subst NoRepeats split order_once) in
      let filled : List Row = fill (problem_of v) [] before in
      let last : ℕ = v.band.slots - (problem_of v).width i in
      let none : (s : ℕ) → s + (problem_of v).width i ≤ v.band.slots → fits (problem_of v) filled i s ≡ false
      = λ s inside.
      not_true_false (fits (problem_of v) filled i s)
      (λ f. none_fits (problem_of v) v.band.slots filled i above s f (omega (arith, inside, end_is (problem_of v) i s))) in
      record {
        before = before;
        after = after;
        stands = split;
        plan = start_in filled;
        each_lowest = each_lowest v (start_in filled) before once (λ j m. refl) filled fine;
        none_free = λ s inside. before_clashes v (start_in filled) before once (λ j m. refl) i s (none s inside);
        in_the_way =
            subst (λ (r : List Row). InTheWay v (start_in filled) before i last (blocker_entry (blocker_at (problem_of v) r i last))) (sym rows_are)
            (before_blocked v (start_in filled) before once (λ j m. refl) i last
            (none last (omega (arith, width_inside v request_sound i))));
      }

  module _ (starts : List ℕ) (room : v.demand_count ≤ length starts) (rows : List Row) (out : fitted v order ≡ placed rows) where
    -- the rows are those of first fit along the order
    rows_are : rows ≡ fill (problem_of v) [] order
    unfolding fitted
    rows_are = placed_fill (problem_of v) v.band.slots [] order rows out

    -- what is written
    written : first_fit_starts v order rooms starts ≡ over (starts_of v.demand_count rows) starts
    unfolding fitted_starts
    written = fitted_writes v order rooms tested starts ∙ ap (λ (o : Fitted). fitted_starts v.demand_count o starts) out

    -- the start written for a demand is the one that the rows give it
    pub start_is : (j : ℕ) → j < v.demand_count → start_at (first_fit_starts v order rooms starts) j ≡ start_in (fill (problem_of v) [] order) j
    unfolding start_at
    start_is j h =
        front_entry (starts_of v.demand_count rows) starts (first_fit_starts v order rooms starts) j (omega (arith, h, starts_long v.demand_count rows)) written
        ∙ start_listed v.demand_count rows j h
        ∙ ap (λ (r : List Row). start_in r j) rows_are

    listed_start : (j : ℕ) → Memᴰ j (listing v.demand_count) →
        start_in (fill (problem_of v) [] order) j ≡ start_at (first_fit_starts v order rooms starts) j
    listed_start j m = sym (start_is j (listing_below v.demand_count j m))

    -- the rows end inside the band
    top_inside : top (problem_of v) (fill (problem_of v) [] order) ≤ v.band.slots
    unfolding fitted
    top_inside = placed_top (problem_of v) v.band.slots [] order rows (omega (arith, top_nil (problem_of v))) out

    -- the plan given is allowed
    given_allowed : AllowedPlan v (first_fit_starts v order rooms starts)
    given_allowed =
        ends_to_slots v (first_fit_starts v order rooms starts)
        (allowed_alike (problem_of v) (start_in (fill (problem_of v) [] order)) (start_at (first_fit_starts v order rooms starts)) v.band.slots []
        (listing v.demand_count)
        listed_start
        (fill_allowed (problem_of v) (joined_swap v) v.band.slots [] order (listing v.demand_count) arranged
        (listing_no_repeats v.demand_count) top_inside))

    -- its end is the top of the rows
    given_end : length v.demands ≡ v.demand_count → end_of_plan v (first_fit_starts v order rooms starts) ≡ top (problem_of v) rows
    given_end counted =
        plan_end_is v (first_fit_starts v order rooms starts) counted
        ∙ sym (plan_end_alike (problem_of v) (start_in (fill (problem_of v) [] order)) (start_at (first_fit_starts v order rooms starts)) []
        (listing v.demand_count) listed_start)
        ∙ fill_plan_end (problem_of v) [] order (listing v.demand_count) arranged (listing_no_repeats v.demand_count)
        ∙ ap (top (problem_of v)) (sym rows_are)

    module _ (blockers : List ℕ) (blockers-room : v.demand_count ≤ length blockers) where
      -- the blockers that are written
      named : first_fit_blockers v order rooms blockers ≡ over (blockers_of (problem_of v) v.demand_count rows) blockers
      unfolding fitted_blockers
      named = fitted_names v order rooms tested blockers ∙ ap (λ (o : Fitted). fitted_blockers v o blockers) out

      -- the blocker written for a demand is the one that the rows give it
      blocker_is : (j : ℕ) → j < v.demand_count →
          start_at (first_fit_blockers v order rooms blockers) j ≡ blocker_entry (blocker_in (problem_of v) (fill (problem_of v) [] order) j)
      unfolding start_at
      blocker_is j h =
          front_entry (blockers_of (problem_of v) v.demand_count rows) blockers (first_fit_blockers v order rooms blockers) j
          (omega (arith, h, blockers_long (problem_of v) v.demand_count rows)) named
          ∙ blocker_listed (problem_of v) v.demand_count rows j h
          ∙ ap (λ (r : List Row). blocker_entry (blocker_in (problem_of v) r j)) rows_are

      -- a demand of the order is listed
      below : (j : ℕ) → Memᴰ j order → j < v.demand_count
      below j m = listing_below v.demand_count j (arrange_mem order (listing v.demand_count) arranged j m)

      -- all are placed: the promise
      plan_given : length v.demands ≡ v.demand_count →
          PlanGiven v order starts blockers (first_fit_starts v order rooms starts) (first_fit_blockers v order rooms blockers) (top (problem_of v) rows)
      unfolding fitted
      plan_given counted =
          record {
            each_lowest = each_lowest v (start_at (first_fit_starts v order rooms starts)) order order_once (λ j m. start_is j (below j m)) rows out;
            each_blocked =
                each_blocked v (start_at (first_fit_starts v order rooms starts)) order order_once (λ j m. start_is j (below j m))
                (start_at (first_fit_blockers v order rooms blockers)) (λ j m. blocker_is j (below j m));
            allowed = given_allowed;
            ends = sym (given_end counted);
            in_band = rw rows_are top_inside;
            starts_written = front_written v.demand_count (starts_of v.demand_count rows) starts _ (starts_long v.demand_count rows) room written;
            blockers_written = front_written v.demand_count (blockers_of (problem_of v) v.demand_count rows) blockers _ (blockers_long (problem_of v) v.demand_count rows) blockers-room named;
          }

-- an end in reply to a fitting is the top of its rows
end_is_top : (v : View) (out : Fitted) (end : ℕ) → fitted_reply v out ≡ Ok end →
    (rows : List Row) × (out ≡ placed rows) × (top (problem_of v) rows ≡ end)
unfolding fitted_reply
end_is_top v (placed rows) end e = (rows, refl, cc)
end_is_top v (refused rows i) end e = absurd (let z : ◌≡◌ {A = ℕ} 0 1 = cc in omega arith)

-- first fit that tells an end has given each demand, in the order, its lowest free start and its blocker; the plan is allowed and has that
-- end
pub first_fit_promise : (q : Request) → Whole q → (order starts blockers : List ℕ) (end : ℕ) →
    placed_told (first_fit_reply (view q) order (length starts ∷ length blockers ∷ [])) ≡ (0, end ∷ []) →
    PlanGiven (view q) order starts blockers (first_fit_starts (view q) order (length starts ∷ length blockers ∷ []) starts)
    (first_fit_blockers (view q) order (length starts ∷ length blockers ∷ []) blockers) end
unfolding first_fit_reply placed_told
first_fit_promise q whole order starts blockers end e =
    let v : View = view q in
    let rooms : List ℕ = length starts ∷ length blockers ∷ [] in
    let (tested, answer) =
    end_given (check_first_fit v order rooms) (fitted_reply v (fitted v order)) end
    (placed_told_whole (first_fit_reply v order rooms) (Ok end) e) in
    let (rows, out, tops) = end_is_top v (fitted v order) end answer in
    let limits = checked_limits q whole (request_sound v order rooms tested) in
    subst (PlanGiven v order starts blockers (first_fit_starts v order rooms starts) (first_fit_blockers v order rooms blockers)) tops
    (plan_given v order rooms tested starts (room_enough v order rooms tested (length starts) (Memᴰ.head refl)) rows out
    blockers (room_enough v order rooms tested (length blockers) (Memᴰ.tail (Memᴰ.head refl))) limits.demands_there)

-- a blocker in reply to a fitting: it was refused
blocked_is : (v : View) (out : Fitted) (why : Refusal) (b : ℕ) → fitted_reply v out ≡ Err (unplaced.Blocked why b) →
    (rows : List Row)
    × (i : ℕ)
    × (out ≡ refused rows i)
    × (why ≡ NoStart i)
    × (b ≡ blocker_entry (blocker_at (problem_of v) rows i (v.band.slots - (problem_of v).width i)))
unfolding fitted_reply
blocked_is v (placed rows) why b e = absurd (let z : ◌≡◌ {A = ℕ} 0 1 = cc in omega arith)
blocked_is v (refused rows i) why b e = (rows, i, refl, cc, cc)

-- what a reply that is no plan's end tells: a test's refusal, or 13
fault_is : (v : View) (order rooms : List ℕ) (c : Result Unit Refusal) → check_first_fit v order rooms ≡ c → (r : Result ℕ Unplaced) →
    placed_after c (fitted_reply v (fitted v order)) ≡ r → (number : ℕ) (values : List ℕ) → 1 ≤ number → placed_told r ≡ (number, values) →
    (checked_told c ≡ (number, values))
    ⊎ ((number ≡ 13) × (place : ℕ) × (blocker : ℕ) × (values ≡ place ∷ blocker ∷ []) × NoStartFree v order place blocker)
unfolding placed_told placed_after checked_told
fault_is v order rooms c is (Ok end) e number values fault told = absurd (omega (arith, fault, ap (λ (t : Told ℕ). t.0) told))
fault_is v order rooms (Err found) is (Err (unplaced.Refused why)) e number values fault told =
    let same : found ≡ why = cc in inl (ap refusal_told same ∙ told)
fault_is v order rooms (Ok _) is (Err (unplaced.Refused why)) e number values fault told = absurd (fitting_tested v (fitted v order) why e)
fault_is v order rooms (Err found) is (Err (unplaced.Blocked why b)) e number values fault told =
    absurd (let z : ◌≡◌ {A = ℕ} 0 1 = cc in omega arith)
fault_is v order rooms (Ok _) is (Err (unplaced.Blocked why b)) e number values fault told =
    let (rows, i, out, thirteen, named) = blocked_is v (fitted v order) why b e in
    inr (
      sym (ap (λ (t : Told ℕ). t.0) told) ∙ ap number_of thirteen,
      i,
      b,
      sym (ap (λ (t : Told ℕ). t.1) told) ∙ ap (λ (r : Refusal). place_of r ∷ b ∷ []) thirteen,
      subst (NoStartFree v order i) (sym named) (refused_means v order rooms is rows i out),
    )

-- first fit that tells a fault, of any number and values: a test tells it; or it is 13 with a place and a blocker, no start is free for the
-- demand at the place, and the blocker is in the way at the last start that it could have
pub first_fit_refusal : (v : View) (order rooms : List ℕ) (number : ℕ) (values : List ℕ) → 1 ≤ number →
    placed_told (first_fit_reply v order rooms) ≡ (number, values) →
    (checked_told (check_first_fit v order rooms) ≡ (number, values))
    ⊎ ((number ≡ 13) × (place : ℕ) × (blocker : ℕ) × (values ≡ place ∷ blocker ∷ []) × NoStartFree v order place blocker)
unfolding first_fit_reply
first_fit_refusal v order rooms number values fault told =
    fault_is v order rooms (check_first_fit v order rooms) refl (first_fit_reply v order rooms) refl number values fault told
