-- The search keeps its promises: whatever it answers about a sound request holds.
use Rattle.refusal.specs.declared.Refusal.{Refusal}
use Prim.Native.Nat.{ℕ, ◌+◌, ◌≤◌, ◌<◌}
use Rattle.std.specs.Prelude.{true, ◌≡◌, Result, Ok, Err}
use Rattle.std.proofs.lemmas.Bool.{false≢true}
use mathlib.Core.List.Memᴰ
use mathlib.Core.List.{List, [], ◌∷◌, ◌++◌, append_assoc, Memᴰ}
use Rattle.std.proofs.Common.{⊎_elim, ◌∙◌, arith}
use Rattle.std.proofs.Math.Path.{refl, sym, subst, ap, ap₂}
use Rattle.std.proofs.Math.ListN.{length, take, drop}
use Rattle.theory.specs.Earlier.{Lower}
use Rattle.theory.specs.Orders.{factorial, orders, listing}
use Rattle.theory.proofs.OrdersLaws.{factorial_pos, orders_arrange, earlier_listed_before}
use Rattle.theory.proofs.ListingLaws.{listing_below, listing_length, listing_no_repeats, listing_rising}
use Rattle.theory.specs.Arrange.{Arrange}
use Rattle.theory.proofs.ArrangeLaws.{arrange_mem, arrange_length, arrange_no_repeats}
use Rattle.theory.proofs.EarlierLaws.{lower_earlier}
use Rattle.theory.proofs.AlikeLaws.{plan_end_alike, allowed_alike}
use Rattle.theory.specs.Problem.{Problem, Row, fill, placed, start_in}
use Rattle.theory.proofs.ProblemLaws.{top_nil}
use Rattle.theory.specs.inner.Tried.{ends_at, FirstLowest}
use Rattle.theory.specs.Walk.{Best, none_met, met}
use Rattle.theory.specs.Search as theory
use Rattle.theory.specs.inner.Promises as promises
use Rattle.theory.proofs.SearchLaws.{search_promise, search_steps, search_bound, search_same}
use Rattle.request.specs.declared.Request.{Request}
use Rattle.request.specs.View.{View, view, demand_at}
use Rattle.request.specs.Check.{check}
use Rattle.request.specs.Whole.{Whole}
use Rattle.request.proofs.LimitsLaws.{checked_limits}
use Rattle.request.proofs.SoundLaws.{check_sound, whole_counted}
use Rattle.request.specs.Sound.{SoundRequest}
use Rattle.request.specs.Sharing.{problem_of}
use Rattle.meeting.specs.Bound.{bound_of}
use Rattle.meeting.specs.Plan.{start_at, starts_of}
use Rattle.meeting.specs.PlanLaws.{slots_to_ends, ends_to_slots, share_swap}
use Rattle.meeting.specs.BoundLaws.{bound_below}
use Rattle.meeting.specs.MeetingLaws.{start_listed, starts_long}
use Rattle.meeting.specs.PlanEndLaws.{plan_end_is}
use Rattle.search.specs.declared.Outcome.{Outcome}
use Rattle.search.specs.declared.Outcome.TheVariants.{Unfinished, UnfinishedEmpty}
use Rattle.search.specs.declared.Answer.{Answer}
use Rattle.search.specs.Reply.{Buffers, rooms_of, searched, outcome_told, answer_told, check_search, reply_to, buffers_kept, search_reply, buffers_after}
use Rattle.lent.specs.Lent.{over, unless_refused}
use Rattle.placing.specs.FirstFit.{blockers_of, fitted}
use Rattle.placing.proofs.FirstFitLaws.{blockers_long, blocker_listed}
use Rattle.theory.proofs.FirstFitLaws.{top_placed}
use Rattle.placing.proofs.LowestFreeLaws.{each_blocked}
use Rattle.search.specs.ReplyLaws.{passed_searchable}
use Rattle.search.specs.SettlesLaws.{settles_told, settling, twelve_within}
use Rattle.search.specs.Demand3.{OrderOf, end_in_order, PlanShown, NoneLower, BestThereIs, NoPlanExists, StepsUsedUp, BestSoFar, NoneSoFar, Promised, fronts, RestKept, settles, steps_needed, SettlesExactly, AnswerKept}
use Rattle.lent.specs.LentLaws.{front_written, rest_kept}

-- an order that comes before another is listed before it
listed_before : (K : ℕ) (earlier later : List (List ℕ)) (order other : List ℕ) → orders (listing K) ≡ earlier ++ (order ∷ later) →
    Arrange order (listing K) → Arrange other (listing K) → Lower other order → Memᴰ other earlier
listed_before K earlier later order other split is-order is-other low =
    earlier_listed_before (listing K) (listing_no_repeats K) earlier later order other split is-other
    (lower_earlier (listing K) (listing_rising K) other order (arrange_mem other (listing K) is-other) (arrange_mem order (listing K) is-order) low)

-- the plan of an order, as a search shows it: first fit's starts and blockers
unfoldable plan_of : View → List ℕ → Buffers
plan_of v order =
    let rows : List Row = fill (problem_of v) [] order in
    record { starts = starts_of v.demand_count rows; order = order; blockers = blockers_of (problem_of v) v.demand_count rows }

module _ (v : View) (lent : Buffers) (best : Best) (order : List ℕ) (is : best ≡ met (fill (problem_of v) [] order) order)
    (long : length order ≡ v.demand_count) where
  -- with a plan the buffers hold it at their front
  front_kept : fronts v.demand_count (buffers_kept v best lent) ≡ plan_of v order
  unfolding fronts buffers_kept plan_of
  front_kept =
      let K : ℕ = v.demand_count in
      let rows : List Row = fill (problem_of v) [] order in
      ap (λ (b : Best). fronts K (buffers_kept v b lent)) is
      ∙ ap₂ (λ (s o : List ℕ). record { starts = s; order = o; blockers = take K (over (blockers_of (problem_of v) K rows) lent.blockers) })
      (front_written K (starts_of K rows) lent.starts (starts_long K rows))
      (front_written K order lent.order long)
      ∙ ap (λ (b : List ℕ). record { starts = starts_of K rows; order = order; blockers = b })
      (front_written K (blockers_of (problem_of v) K rows) lent.blockers (blockers_long (problem_of v) K rows))

  -- and stay behind it
  starts_rest : drop v.demand_count (buffers_kept v best lent).starts ≡ drop v.demand_count lent.starts
  unfolding buffers_kept
  starts_rest =
      let K : ℕ = v.demand_count in
      let rows : List Row = fill (problem_of v) [] order in
      ap (λ (b : Best). drop K (buffers_kept v b lent).starts) is ∙ rest_kept K (starts_of K rows) lent.starts (starts_long K rows)

  order_rest : drop v.demand_count (buffers_kept v best lent).order ≡ drop v.demand_count lent.order
  unfolding buffers_kept
  order_rest = ap (λ (b : Best). drop v.demand_count (buffers_kept v b lent).order) is ∙ rest_kept v.demand_count order lent.order long

  blockers_rest : drop v.demand_count (buffers_kept v best lent).blockers ≡ drop v.demand_count lent.blockers
  unfolding buffers_kept
  blockers_rest =
      let K : ℕ = v.demand_count in
      let rows : List Row = fill (problem_of v) [] order in
      ap (λ (b : Best). drop K (buffers_kept v b lent).blockers) is
      ∙ rest_kept K (blockers_of (problem_of v) K rows) lent.blockers (blockers_long (problem_of v) K rows)

-- without a plan they stay
unwritten : (v : View) (best : Best) (lent : Buffers) → best ≡ none_met → buffers_kept v best lent ≡ lent
unfolding buffers_kept
unwritten v best lent h = ap (λ (b : Best). buffers_kept v b lent) h

-- what the promises rest on holds of every sound request
pub grounds_of : (v : View) → SoundRequest v → length v.demands ≡ v.demand_count →
    promises.Grounds (problem_of v) v.band.slots (bound_of v) [] (listing v.demand_count)
unfolding problem_of promises.NoneBelow
grounds_of v sound counted =
    record {
      two_way = λ i j. share_swap (demand_at v.demands i).route (demand_at v.demands j).route;
      wide = λ i m. (sound.demands_sound i (listing_below v.demand_count i m)).some_width;
      once = listing_no_repeats v.demand_count;
      rows_within = omega (arith, top_nil (problem_of v));
      bounded = λ plan allowed. bound_below v sound counted v.band.slots plan allowed;
    }

module _ (v : View) (sound : SoundRequest v) (counted : length v.demands ≡ v.demand_count)
    (whole : (i : ℕ) → i < v.demand_count → length (demand_at v.demands i).route ≡ (demand_at v.demands i).hops)
    (limit : ℕ) where
  abbrev P : Problem
  P = problem_of v

  abbrev todo : List ℕ
  todo = listing v.demand_count

  -- the plan shown, as a list of starts
  plan_shown : (a : theory.Answer) (order : List ℕ) (e : ℕ) → Memᴰ order (orders todo) →
      promises.Shown P v.band.slots [] todo a order e → PlanShown v e (plan_of v order)
  unfolding OrderOf plan_of start_at blockers_of
  plan_shown a order e listed shown =
      record {
        allowed = ends_to_slots v starts (allowed_alike P (start_in rows) (start_at starts) v.band.slots [] todo same shown.allowed);
        ends = plan_end_is v starts counted ∙ sym (plan_end_alike P (start_in rows) (start_at starts) [] todo same) ∙ shown.plan_ends;
        in_band = shown.within;
        an_order = orders_arrange todo order listed;
        by_first_fit = refl;
        its_blockers = refl;
        each_blocked =
            each_blocked v (start_at starts) order (arrange_no_repeats order todo arranged (listing_no_repeats v.demand_count))
            (λ j m. sym (same j (arrange_mem order todo arranged j m)))
            (start_at (blockers_of P v.demand_count rows))
            (λ j m. blocker_listed P v.demand_count rows j (listing_below v.demand_count j (arrange_mem order todo arranged j m)));
      }
    where
      arranged : Arrange order todo
      arranged = orders_arrange todo order listed

      rows : List Row
      rows = fill P [] order

      starts : List ℕ
      starts = starts_of v.demand_count rows

      same : (i : ℕ) → Memᴰ i todo → start_in rows i ≡ start_at starts i
      same i m = sym (start_listed v.demand_count rows i (listing_below v.demand_count i m))

  -- no allowed plan ends lower, as lists of starts
  none_lower : (e : ℕ) → promises.NoneBelow P v.band.slots [] todo e → NoneLower v e
  unfolding NoneLower promises.NoneBelow
  none_lower e none other plan =
      subst (λ (n : ℕ). e ≤ n) (sym (plan_end_is v other counted)) (none (start_at other) (slots_to_ends v other sound whole plan))

  -- an order of the list of all orders stands in it
  stands_listed : (earlier later : List (List ℕ)) (order : List ℕ) → orders todo ≡ earlier ++ (order ∷ later) → Memᴰ order (orders todo)
  stands_listed earlier later order split =
      subst (λ (l : List (List ℕ)). Memᴰ order l) (sym split) (Memᴰ.append_right earlier (Memᴰ.head refl))

  -- finished: the best there is
  finished_best : (a : theory.Answer) (e : ℕ) (f : promises.Finished P v.band.slots (bound_of v) [] todo a e) →
      BestThereIs v (answer_told a) e (plan_of v f.order)
  unfolding answer_told OrderOf end_in_order ends_at plan_of
  finished_best a e f =
      record {
        shown = plan_shown a f.order e listed f.shown;
        none_lower = none_lower e f.none_lower;
        first = λ other is-order low. f.first other
            (listed_before v.demand_count f.earlier f.later f.order other f.listed (orders_arrange todo f.order listed) is-order low);
        before = length f.earlier;
        rank = record { earlier = f.earlier; later = f.later; stands = f.listed; counted = refl };
        sum_at_bound = f.sum_at_bound;
        sum_above_bound = λ above. f.sum_above_bound above ∙ ap factorial (listing_length v.demand_count);
      }
    where
      listed : Memᴰ f.order (orders todo)
      listed = stands_listed f.earlier f.later f.order f.listed

  -- nothing fits: there is no plan
  nothing_none : (a : theory.Answer) → promises.NothingFits P v.band.slots [] todo a → NoPlanExists v (answer_told a)
  unfolding answer_told
  nothing_none a f =
      record {
        none = λ plan allowed. f.none_allowed (start_at plan) (slots_to_ends v plan sound whole allowed);
        sum = f.sum ∙ ap factorial (listing_length v.demand_count);
      }

  -- stopped: the steps are used up
  stopped_used : (a : theory.Answer) (taken_in : List (List ℕ)) → promises.Stopped limit todo a taken_in →
      StepsUsedUp v limit (answer_told a) taken_in
  unfolding answer_told
  stopped_used a taken_in f =
      record {
        steps_used = f.steps_are;
        orders_left = f.remaining;
        first_ones = f.split;
        sum = f.sum;
        not_all = subst (λ (n : ℕ). a.reached + a.ruled < factorial n) (listing_length v.demand_count) f.sum_below;
      }

  -- unfinished with a plan: the best so far
  unfinished_best : (a : theory.Answer) (e : ℕ) (f : promises.Unfinished P v.band.slots (bound_of v) limit [] todo a e) →
      BestSoFar v limit (answer_told a) e (plan_of v f.order)
  unfolding end_in_order ends_at plan_of
  unfinished_best a e f =
      record {
        orders_met = f.taken_in;
        stopped = stopped_used a f.taken_in f.stopped;
        shown = plan_shown a f.order e listed f.shown;
        met_it = subst (λ (l : List (List ℕ)). Memᴰ f.order l) (sym lead.stands) (Memᴰ.append_right lead.earlier (Memᴰ.head refl));
        best_met = λ other m. subst (λ (n : ℕ). n ≤ ends_at P (fill P []) other) f.shown.order_ends (no_lower other m);
        first = λ other m low. subst (λ (n : ℕ). n < ends_at P (fill P []) other) f.shown.order_ends
            (lead.earlier_higher other
            (listed_before v.demand_count lead.earlier (lead.later ++ f.stopped.remaining) f.order other whole_split
            (orders_arrange todo f.order listed)
            (orders_arrange todo other (subst (λ (l : List (List ℕ)). Memᴰ other l) (sym f.stopped.split) (Memᴰ.append_left f.stopped.remaining m))) low));
        above_bound = f.above_bound;
      }
    where
      lead : FirstLowest P (fill P []) (v.band.slots + 1) f.taken_in f.order
      lead = f.lowest_first

      whole_split : orders todo ≡ lead.earlier ++ (f.order ∷ (lead.later ++ f.stopped.remaining))
      whole_split =
          f.stopped.split
          ∙ ap (λ (l : List (List ℕ)). l ++ f.stopped.remaining) lead.stands
          ∙ append_assoc lead.earlier (f.order ∷ lead.later) f.stopped.remaining

      listed : Memᴰ f.order (orders todo)
      listed = stands_listed lead.earlier (lead.later ++ f.stopped.remaining) f.order whole_split

      no_lower : (other : List ℕ) → Memᴰ other f.taken_in → ends_at P (fill P []) f.order ≤ ends_at P (fill P []) other
      no_lower other m =
          ⊎_elim
          (λ here. let h = lead.earlier_higher other here in omega arith)
          (λ there. ⊎_elim
          (λ (same : other ≡ f.order). subst (λ (o : List ℕ). ends_at P (fill P []) f.order ≤ ends_at P (fill P []) o) (sym same) (omega arith))
          (lead.later_no_lower other)
          (Memᴰ.cases_cons there))
          (Memᴰ.append_cases lead.earlier (subst (λ (l : List (List ℕ)). Memᴰ other l) lead.stands m))

  -- unfinished without a plan: none so far
  empty_none : (a : theory.Answer) → promises.UnfinishedEmpty P v.band.slots limit [] todo a → NoneSoFar v limit (answer_told a)
  unfolding end_in_order ends_at
  empty_none a f =
      record { orders_met = f.taken_in; stopped = stopped_used a f.taken_in f.stopped; none_met = f.none_within }

  -- a plan that is shown is placed by first fit
  shown_fitted : (a : theory.Answer) (order : List ℕ) (e : ℕ) → promises.Shown P v.band.slots [] todo a order e →
      fitted v order ≡ placed (fill P [] order)
  unfolding fitted ends_at
  shown_fitted a order e shown = top_placed P v.band.slots [] order (omega (arith, shown.order_ends, shown.within))

  -- no plan is none
  none_met_plan : (rows : List Row) (order : List ℕ) → none_met ≡ met rows order → ⊥
  none_met_plan rows order e = let z : ◌≡◌ {A = ℕ} 0 1 = cc in omega arith

  same_plan : (a : theory.Answer) (shown-order : List ℕ) (e : ℕ) → promises.Shown P v.band.slots [] todo a shown-order e → Arrange shown-order todo →
      (rows : List Row) (order : List ℕ) → a.best ≡ met rows order → Arrange order todo × (fitted v order ≡ placed rows)
  same_plan a shown-order e shown arranged rows order is =
      let one : met (fill P [] shown-order) shown-order ≡ met rows order = sym shown.best_is ∙ is in
      let same_order : shown-order ≡ order = cc in
      let same_rows : fill P [] shown-order ≡ rows = cc in (
        subst (λ (o : List ℕ). Arrange o todo) same_order arranged,
        ap (fitted v) (sym same_order) ∙ shown_fitted a shown-order e shown ∙ ap placed same_rows,
      )

  -- whatever the outcome, the best plan is such a one
  best_from : (a : theory.Answer) (o : theory.Outcome) → promises.Promise P v.band.slots (bound_of v) limit [] todo a o →
      (rows : List Row) (order : List ℕ) → a.best ≡ met rows order → Arrange order todo × (fitted v order ≡ placed rows)
  unfolding promises.Promise OrderOf plan_of
  best_from a (theory.finished e) f rows order is =
      same_plan a f.order e f.shown (orders_arrange todo f.order (stands_listed f.earlier f.later f.order f.listed)) rows order is
  best_from a theory.nothing_fits f rows order is = absurd (none_met_plan rows order (sym f.best_is ∙ is))
  best_from a (theory.unfinished e) f rows order is =
      same_plan a f.order e f.shown (unfinished_best a e f).shown.an_order rows order is
  best_from a theory.unfinished_empty f rows order is = absurd (none_met_plan rows order (sym f.best_is ∙ is))

  -- an order shown is as long as there are demands
  shown_long : (e : ℕ) (order : List ℕ) → PlanShown v e (plan_of v order) → length order ≡ v.demand_count
  unfolding OrderOf plan_of
  shown_long e order shown = arrange_length order todo shown.an_order ∙ listing_length v.demand_count

  module _ (lent : Buffers) where
    -- what holds of an answer and the buffers after it, by outcome
    unfoldable Kept : theory.Answer → Outcome → Type 0
    Kept a o =
        let after : Buffers = buffers_kept v a.best lent in
        Promised v limit (answer_told a) (fronts v.demand_count after) o
        × RestKept v.demand_count o lent.starts after.starts
        × RestKept v.demand_count o lent.order after.order
        × RestKept v.demand_count o lent.blockers after.blockers

    -- whatever the outcome, it is kept
    kept : (a : theory.Answer) (o : theory.Outcome) → promises.Promise P v.band.slots (bound_of v) limit [] todo a o → Kept a (outcome_told o)
    unfolding Kept promises.Promise Promised outcome_told RestKept
    kept a (theory.finished e) f =
        let best = finished_best a e f in
        let is = f.shown.best_is in
        let long : length f.order ≡ v.demand_count = shown_long e f.order best.shown in (
          subst (BestThereIs v (answer_told a) e) (sym (front_kept v lent a.best f.order is long)) best,
          starts_rest v lent a.best f.order is long,
          order_rest v lent a.best f.order is long,
          blockers_rest v lent a.best f.order is long,
        )
    kept a theory.nothing_fits f =
        let stays = unwritten v a.best lent f.best_is in
        (nothing_none a f, ap (λ (b : Buffers). b.starts) stays, ap (λ (b : Buffers). b.order) stays, ap (λ (b : Buffers). b.blockers) stays)
    kept a (theory.unfinished e) f =
        let best = unfinished_best a e f in
        let is = f.shown.best_is in
        let long : length f.order ≡ v.demand_count = shown_long e f.order best.shown in (
          subst (BestSoFar v limit (answer_told a) e) (sym (front_kept v lent a.best f.order is long)) best,
          starts_rest v lent a.best f.order is long,
          order_rest v lent a.best f.order is long,
          blockers_rest v lent a.best f.order is long,
        )
    kept a theory.unfinished_empty f =
        let stays = unwritten v a.best lent f.best_is in
        (empty_none a f, ap (λ (b : Buffers). b.starts) stays, ap (λ (b : Buffers). b.order) stays, ap (λ (b : Buffers). b.blockers) stays)

    -- what the search answers about a sound request, and what the buffers hold then, keeps its promise
    pub sound_kept : AnswerKept v limit (answer_told (searched v limit)) lent (buffers_kept v (searched v limit).best lent)
    unfolding searched answer_told Kept
    sound_kept =
        let told = kept (searched v limit) (searched v limit).outcome
        (search_promise P v.band.slots (bound_of v) limit [] todo (grounds_of v sound counted)) in
        record {
          promised = told.0;
          settles_exactly = settling v limit;
          bound_shown = search_bound P v.band.slots (bound_of v) limit [] todo;
          steps_within = search_steps P v.band.slots (bound_of v) limit [] todo;
          starts_kept = told.1;
          order_kept = told.2;
          blockers_kept = told.3;
        }

  -- a best plan that the search holds is first fit's along its order, which first fit places inside the band
  pub best_fitted : (rows : List Row) (order : List ℕ) → (searched v limit).best ≡ met rows order →
      Arrange order todo × (fitted v order ≡ placed rows)
  unfolding searched
  best_fitted rows order is =
      best_from (searched v limit) (searched v limit).outcome
      (search_promise P v.band.slots (bound_of v) limit [] todo (grounds_of v sound counted)) rows order is

-- an answer in reply: the tests passed, and it is what the search found
pub answer_given : (c : Result Unit Refusal) (found : theory.Answer) (a : Answer) → reply_to c found ≡ Ok a → (c ≡ Ok tt) × (answer_told found ≡ a)
unfolding reply_to
answer_given (Ok _) found a e = (refl, cc)
answer_given (Err why) found a e = absurd (let z : ◌≡◌ {A = ℕ} 0 1 = cc in omega arith)

-- demand 3: what `search` answers about a request, and what it leaves in the buffers, keeps its promise, whatever the request, the
-- limit and the buffers were
pub demand3 : (q : Request) → Whole q → (limit : ℕ) (lent : Buffers) (a : Answer) →
    search_reply (view q) limit (rooms_of lent) ≡ Ok a → AnswerKept (view q) limit a lent (buffers_after (view q) limit lent)
unfolding search_reply buffers_after unless_refused
demand3 q whole limit lent a e =
    let v : View = view q in
    let (passed, same) = answer_given (check_search v (rooms_of lent)) (searched v limit) a e in
    let sound : check v ≡ Ok tt = (passed_searchable v (rooms_of lent) passed).sound in
    let limits = checked_limits q whole sound in
    let kept = sound_kept v (check_sound v (whole_counted q whole) sound) limits.demands_there limits.routes_there limit lent in
    subst (λ (x : Result Unit Refusal). AnswerKept v limit a lent (unless_refused x lent (buffers_kept v (searched v limit).best lent))) (sym passed)
    (subst (λ (b : Answer). AnswerKept v limit b lent (buffers_kept v (searched v limit).best lent)) same kept)

-- an answer that settles the question is the answer under every limit of at least its steps, and so are the buffers
pub settled_same : (v : View) (limit other : ℕ) (lent : Buffers) (a : Answer) →
    search_reply v limit (rooms_of lent) ≡ Ok a → settles a.outcome ≡ true → a.steps ≤ other →
    (search_reply v other (rooms_of lent) ≡ Ok a) × (buffers_after v other lent ≡ buffers_after v limit lent)
unfolding searched search_reply buffers_after answer_told
settled_same v limit other lent a e settled few =
    let c : Result Unit Refusal = check_search v (rooms_of lent) in
    let told : answer_told (searched v limit) ≡ a = (answer_given c (searched v limit) a e).1 in
    let same : searched v other ≡ searched v limit =
    search_same (problem_of v) v.band.slots (bound_of v) limit other [] (listing v.demand_count)
    (sym (settles_told (searched v limit).outcome) ∙ ap (λ (x : Answer). settles x.outcome) told ∙ settled)
    (subst (λ (n : ℕ). n ≤ other) (sym (ap (λ (x : Answer). x.steps) told)) few) in
    (ap (reply_to c) same ∙ e, ap (λ (x : theory.Answer). unless_refused c lent (buffers_kept v x.best lent)) same)

-- an answer settles the question exactly from the steps needed on
answer_settling : (v : View) (limit : ℕ) (rooms : List ℕ) (a : Answer) → search_reply v limit rooms ≡ Ok a →
    SettlesExactly (steps_needed v) limit a
unfolding search_reply
answer_settling v limit rooms a e =
    subst (SettlesExactly (steps_needed v) limit) (answer_given (check_search v rooms) (searched v limit) a e).1 (settling v limit)

-- for each request there is one number of steps, the same for every limit and all buffers: the question is settled exactly where the limit
-- is no lower, and then in exactly so many steps
pub settles_from : (v : View) → (needed : ℕ) ×
    ((limit : ℕ) (rooms : List ℕ) (a : Answer) → search_reply v limit rooms ≡ Ok a → SettlesExactly needed limit a)
settles_from v = (steps_needed v, answer_settling v)

-- one who takes no order in and says of every limit that it is used up keeps what unfinished without a plan promises, whatever the request
pub giving_up_promised : (v : View) (limit bound : ℕ) →
    NoneSoFar v limit (record { outcome = UnfinishedEmpty; bound = bound; steps = limit; reached = 0; ruled = 0 })
giving_up_promised v limit bound =
    record {
      orders_met = [];
      stopped =
          record {
            steps_used = refl;
            orders_left = orders (listing v.demand_count);
            first_ones = refl;
            sum = refl;
            not_all = omega (arith, factorial_pos v.demand_count);
          };
      none_met = λ other m. absurd (Memᴰ.not-nil m);
    }

-- but not the whole promise: nobody who keeps that says unfinished, with or without a plan, where the limit has room for the steps needed
pub never_always_unfinished : (v : View) (limit : ℕ) (a : Answer) (lent after : Buffers) → AnswerKept v limit a lent after → steps_needed v ≤ limit →
    (a.outcome ≡ UnfinishedEmpty → ⊥) × ((e : ℕ) → a.outcome ≡ Unfinished e → ⊥)
unfolding settles
never_always_unfinished v limit a lent after kept enough =
    let settled : settles a.outcome ≡ true = kept.settles_exactly.settled_there enough in (
      λ none. false≢true (sym (ap settles none) ∙ settled),
      λ e some. false≢true (sym (ap settles some) ∙ settled),
    )

-- up to twelve demands a limit of 1302061344 steps settles the question, whatever the request
pub twelve_settled : (v : View) → v.demand_count ≤ 12 → (limit : ℕ) → 1302061344 ≤ limit → (rooms : List ℕ) (a : Answer) →
    search_reply v limit rooms ≡ Ok a → settles a.outcome ≡ true
twelve_settled v few limit enough rooms a e =
    (answer_settling v limit rooms a e).settled_there (omega (arith, twelve_within v few))
