-- The ways that first fit can go: what it replies, and what the starts and the blockers are afterwards.
use Rattle.std.specs.Prelude.{ℕ, ◌≤◌, ◌<◌, ◌≡◌, refl, get_or, take, Result, Ok, Err}
use mathlib.Core.List.{List, [], ◌∷◌, map}
use Rattle.std.proofs.Math.Path.{sym, ap}
use Rattle.std.proofs.Common.{ap₂, ◌∙◌, arith, ext_get_or, get_or-take}
use Rattle.std.proofs.Math.ListN.{length}
use Rattle.std.proofs.lemmas.List.{length-map}
use Rattle.std.proofs.Math.Seq.{length-take-le}
use Rattle.refusal.specs.declared.Refusal.{Refusal}
use Rattle.refusal.specs.RefusalLaws.{same_refusal}
use Rattle.refusal.specs.Told.{Told}
use Rattle.refusal.specs.ToldLaws.{refusal_told_whole, refusal_told_fault}
use Rattle.theory.specs.Blocker.{blocker_in}
use Rattle.theory.specs.Arrange.{Arrange}
use Rattle.theory.specs.Orders.{listing}
use Rattle.theory.proofs.ListingLaws.{listing_length}
use Rattle.theory.specs.Problem.{Problem, Row, Fitted, placed, refused, start_in, top}
use Rattle.request.specs.View.{View}
use Rattle.request.specs.Check.{then, check}
use Rattle.request.proofs.CheckLaws.{then_sound, then_refused}
use Rattle.placing.specs.declared.Unplaced.{Unplaced}
use Rattle.placing.specs.declared.Unplaced.TheVariants as unplaced
use Rattle.request.specs.Sharing.{problem_of}
use Rattle.lent.specs.Lent.{check_rooms, over, unless_refused}
use Rattle.lent.specs.LentLaws.{all_over, rooms_with, rooms_none}
use Rattle.meeting.specs.MeetingLaws.{listing_at}
use Rattle.meeting.specs.Plan.{start_at, starts_of}
use Rattle.placing.specs.FirstFit.{check_order, check_first_fit, fitted, fitted_reply, placed_after, first_fit_reply, fitted_starts, fitted_blockers, first_fit_starts, first_fit_blockers, blockers_of, blocker_entry, placed_told}
use Rattle.placing.proofs.OrderLaws.{arranged_passes}
use Rattle.placing.specs.inner.Placement.{PlanKept}

module _ (v : View) (order rooms : List ℕ) where
  -- the tests: a refused request
  pub request_refused_lem : (why : Refusal) → check v ≡ Err why → check_first_fit v order rooms ≡ Err why
  unfolding check_first_fit
  request_refused_lem why fails = then_refused (check v) _ why fails

  module _ (passes : check v ≡ Ok tt) where
    -- a sound request leaves the order and the buffers to test
    request_passes : check_first_fit v order rooms ≡ then (check_order v.demand_count order) (check_rooms v.demand_count rooms)
    unfolding check_first_fit
    request_passes = then_sound (check v) (then (check_order v.demand_count order) (check_rooms v.demand_count rooms)) passes

    -- the tests: what is not an order
    pub order_refused : (why : Refusal) → check_order v.demand_count order ≡ Err why →
        check_first_fit v order rooms ≡ Err why
    order_refused why fails =
        request_passes ∙ then_refused (check_order v.demand_count order) (check_rooms v.demand_count rooms) why fails

    -- an order leaves the buffers to test
    pub order_passes : check_order v.demand_count order ≡ Ok tt → check_first_fit v order rooms ≡ check_rooms v.demand_count rooms
    order_passes ordered =
        request_passes ∙ then_sound (check_order v.demand_count order) (check_rooms v.demand_count rooms) ordered

  -- a test that fails is the reply
  pub tests_refuse : (why : Refusal) → check_first_fit v order rooms ≡ Err why → Err (unplaced.Refused why) ≡ first_fit_reply v order rooms
  unfolding first_fit_reply placed_after
  tests_refuse why fails = sym (ap (λ (c : Result Unit Refusal). placed_after c (fitted_reply v (fitted v order))) fails)

  -- and the starts stay
  pub tests_keep_starts : (why : Refusal) → check_first_fit v order rooms ≡ Err why → (starts : List ℕ) → starts ≡ first_fit_starts v order rooms starts
  unfolding first_fit_starts unless_refused
  tests_keep_starts why fails starts =
      sym (ap (λ (c : Result Unit Refusal). unless_refused c starts (fitted_starts v.demand_count (fitted v order) starts)) fails)

  -- and so do the blockers
  pub tests_keep_blockers : (why : Refusal) → check_first_fit v order rooms ≡ Err why → (blockers : List ℕ) →
      blockers ≡ first_fit_blockers v order rooms blockers
  unfolding first_fit_blockers unless_refused
  tests_keep_blockers why fails blockers =
      sym (ap (λ (c : Result Unit Refusal). unless_refused c blockers (fitted_blockers v (fitted v order) blockers)) fails)

  module _ (tested : check_first_fit v order rooms ≡ Ok tt) where
    -- after the tests the reply is that to the fitting
    pub fitted_answers : first_fit_reply v order rooms ≡ fitted_reply v (fitted v order)
    unfolding first_fit_reply placed_after
    fitted_answers = ap (λ (c : Result Unit Refusal). placed_after c (fitted_reply v (fitted v order))) tested

    -- and the starts are those of the fitting
    pub fitted_writes : (starts : List ℕ) → first_fit_starts v order rooms starts ≡ fitted_starts v.demand_count (fitted v order) starts
    unfolding first_fit_starts unless_refused
    fitted_writes starts = ap (λ (c : Result Unit Refusal). unless_refused c starts (fitted_starts v.demand_count (fitted v order) starts)) tested

    -- and the blockers too
    pub fitted_names : (blockers : List ℕ) → first_fit_blockers v order rooms blockers ≡ fitted_blockers v (fitted v order) blockers
    unfolding first_fit_blockers unless_refused
    fitted_names blockers = ap (λ (c : Result Unit Refusal). unless_refused c blockers (fitted_blockers v (fitted v order) blockers)) tested

-- a sound request, an order and two buffers with room pass all tests
pub all_pass : (v : View) → check v ≡ Ok tt → (order : List ℕ) → Arrange order (listing v.demand_count) →
    (starts blockers : ℕ) → v.demand_count ≤ starts → v.demand_count ≤ blockers → check_first_fit v order (starts ∷ blockers ∷ []) ≡ Ok tt
all_pass v passes order arranged starts blockers room blockers-room =
    order_passes v order (starts ∷ blockers ∷ []) passes (arranged_passes v.demand_count order arranged)
    ∙ rooms_with v.demand_count starts (blockers ∷ []) room
    (rooms_with v.demand_count blockers [] blockers-room (rooms_none v.demand_count))

-- a reply to a fitting is no test's
pub fitting_tested : (v : View) (out : Fitted) (why : Refusal) → fitted_reply v out ≡ Err (unplaced.Refused why) → ⊥
unfolding fitted_reply
fitting_tested v (placed rows) why e = let z : ◌≡◌ {A = ℕ} 0 1 = cc in omega arith
fitting_tested v (refused rows i) why e = let z : ◌≡◌ {A = ℕ} 0 1 = cc in omega arith

-- an end in reply: all were placed
pub end_placed : (v : View) (out : Fitted) (end : ℕ) → Ok end ≡ fitted_reply v out → (rows : List Row) × (out ≡ placed rows)
unfolding fitted_reply
end_placed v (placed rows) end e = (rows, refl)
end_placed v (refused rows i) end e = absurd (let z : ◌≡◌ {A = ℕ} 0 1 = cc in omega arith)

-- where no plan was placed the starts stay
pub unplaced_keeps_starts : (v : View) (out : Fitted) (why : Unplaced) (starts : List ℕ) →
    Err why ≡ fitted_reply v out → starts ≡ fitted_starts v.demand_count out starts
unfolding fitted_reply fitted_starts
unplaced_keeps_starts v (placed rows) why starts e = absurd (let z : ◌≡◌ {A = ℕ} 0 1 = cc in omega arith)
unplaced_keeps_starts v (refused rows i) why starts e = refl

-- and the blockers
pub unplaced_keeps_blockers : (v : View) (out : Fitted) (why : Unplaced) (blockers : List ℕ) →
    Err why ≡ fitted_reply v out → blockers ≡ fitted_blockers v out blockers
unfolding fitted_reply fitted_blockers
unplaced_keeps_blockers v (placed rows) why blockers e = absurd (let z : ◌≡◌ {A = ℕ} 0 1 = cc in omega arith)
unplaced_keeps_blockers v (refused rows i) why blockers e = refl

-- a blocker in reply leaves the starts
pub blocked_keeps_starts : (v : View) (out : Fitted) (why : Refusal) (b : ℕ) (starts : List ℕ) →
    Err (unplaced.Blocked why b) ≡ fitted_reply v out → starts ≡ fitted_starts v.demand_count out starts
blocked_keeps_starts v out why b starts e = unplaced_keeps_starts v out (unplaced.Blocked why b) starts e

-- and the blockers
pub blocked_keeps_blockers : (v : View) (out : Fitted) (why : Refusal) (b : ℕ) (blockers : List ℕ) →
    Err (unplaced.Blocked why b) ≡ fitted_reply v out → blockers ≡ fitted_blockers v out blockers
blocked_keeps_blockers v out why b blockers e = unplaced_keeps_blockers v out (unplaced.Blocked why b) blockers e

-- an array of 200 entries that holds something by listing position begins with what there is for K demands
front_given : (of : ℕ → ℕ) (K : ℕ) (at : List ℕ) → K ≤ 200 → length at ≡ 200 → ((j : ℕ) → j < 200 → get_or at j 0 ≡ of j) →
    take K at ≡ map of (listing K)
front_given of K at few full given =
    let long : length (take K at) ≡ K = length-take-le K at (omega arith) in
    ext_get_or 0 (take K at) (map of (listing K)) (long ∙ sym (length-map (listing K) of ∙ listing_length K))
    (λ j h.
    let low : j < K = omega arith in
    get_or-take K at j 0 low ∙ given j (omega arith) ∙ sym (listing_at of K j 0 low))

module _ (v : View) (out : Fitted) (rows : List Row) (at by : List ℕ) (few : v.demand_count ≤ 200) (all : out ≡ placed rows)
    (kept : PlanKept (problem_of v) out at by) where
  -- written to the front of the buffer they are the starts after the fitting
  pub starts_fitted : (starts : List ℕ) → v.demand_count ≤ length starts →
      over (take (length starts) (take v.demand_count at)) starts ≡ fitted_starts v.demand_count out starts
  unfolding fitted_starts starts_of
  starts_fitted starts room =
      all_over (take v.demand_count at) starts (omega (arith, length-take-le v.demand_count at (omega (arith, kept.starts_full))))
      ∙ ap (λ (l : List ℕ). over l starts)
      (front_given (start_in rows) v.demand_count at few kept.starts_full (kept.starts_are rows all))
      ∙ sym (ap (λ (o : Fitted). fitted_starts v.demand_count o starts) all)

  -- and the blockers
  pub blockers_fitted : (blockers : List ℕ) → v.demand_count ≤ length blockers →
      over (take (length blockers) (take v.demand_count by)) blockers ≡ fitted_blockers v out blockers
  unfolding fitted_blockers blockers_of
  blockers_fitted blockers room =
      all_over (take v.demand_count by) blockers (omega (arith, length-take-le v.demand_count by (omega (arith, kept.blockers_full))))
      ∙ ap (λ (l : List ℕ). over l blockers)
      (front_given (λ (j : ℕ). blocker_entry (blocker_in (problem_of v) rows j)) v.demand_count by few kept.blockers_full (kept.blockers_are rows all))
      ∙ sym (ap (λ (o : Fitted). fitted_blockers v o blockers) all)

-- there are K blockers
pub blockers_long : (P : Problem) (K : ℕ) (rows : List Row) → length (blockers_of P K rows) ≡ K
unfolding blockers_of
blockers_long P K rows = length-map (listing K) _ ∙ listing_length K

-- the one at a listing position is that which the rows give its demand
pub blocker_listed : (P : Problem) (K : ℕ) (rows : List Row) (i : ℕ) → i < K → start_at (blockers_of P K rows) i ≡ blocker_entry (blocker_in P rows i)
unfolding start_at blockers_of
blocker_listed P K rows i h = listing_at (λ (j : ℕ). blocker_entry (blocker_in P rows j)) K i 0 h

-- two results of first fit are equal, and leave the same in the buffers
pub same_first_fit : (v : View) (order rooms starts blockers : List ℕ) (a a' : Result ℕ Unplaced) (b b' c c' : List ℕ) →
    a ≡ first_fit_reply v order rooms → b ≡ first_fit_starts v order rooms starts → c ≡ first_fit_blockers v order rooms blockers →
    a' ≡ first_fit_reply v order rooms → b' ≡ first_fit_starts v order rooms starts → c' ≡ first_fit_blockers v order rooms blockers →
    (a ≡ a') × (b ≡ b') × (c ≡ c')
same_first_fit v order rooms starts blockers a a' b b' c c' h k l h' k' l' = (h ∙ sym h', k ∙ sym k', l ∙ sym l')

-- a reply that is no plan's end, of a test or of the fitting, leaves a buffer that the fitting leaves
kept_by : (c : Result Unit Refusal) (v : View) (out : Fitted) (before after : List ℕ) → ((end : ℕ) → placed_after c (fitted_reply v out) ≡ Ok end → ⊥) →
    ((rows : List Row) (i : ℕ) → out ≡ refused rows i → after ≡ before) → unless_refused c before after ≡ before
unfolding placed_after unless_refused fitted_reply
kept_by (Ok _) v (placed rows) before after unplaced keeps = absurd (unplaced _ refl)
kept_by (Ok _) v (refused rows i) before after unplaced keeps = keeps rows i refl
kept_by (Err why) v out before after unplaced keeps = refl

-- first fit that is refused leaves both buffers as they were
pub first_fit_refused_keeps : (v : View) (order rooms starts blockers : List ℕ) →
    ((end : ℕ) → first_fit_reply v order rooms ≡ Ok end → ⊥) →
    (first_fit_starts v order rooms starts ≡ starts) × (first_fit_blockers v order rooms blockers ≡ blockers)
unfolding first_fit_reply first_fit_starts first_fit_blockers fitted_starts fitted_blockers
first_fit_refused_keeps v order rooms starts blockers unplaced = (
  kept_by (check_first_fit v order rooms) v (fitted v order) starts (fitted_starts v.demand_count (fitted v order) starts) unplaced
      (λ rows i e. ap (λ (o : Fitted). fitted_starts v.demand_count o starts) e),
  kept_by (check_first_fit v order rooms) v (fitted v order) blockers (fitted_blockers v (fitted v order) blockers) unplaced
      (λ rows i e. ap (λ (o : Fitted). fitted_blockers v o blockers) e),
)

-- two replies that are told alike are the same
pub placed_told_whole : (r r' : Result ℕ Unplaced) → placed_told r ≡ placed_told r' → r ≡ r'
unfolding placed_told
placed_told_whole (Ok e) (Ok e') h = ap (λ (t : Told ℕ). Ok (get_or t.1 0 0)) h
placed_told_whole (Ok e) (Err (unplaced.Refused why)) h = absurd (refusal_told_fault why _ _ (sym h))
placed_told_whole (Ok e) (Err (unplaced.Blocked why b)) h = absurd (refusal_told_fault why _ _ (sym h))
placed_told_whole (Err (unplaced.Refused why)) (Ok e) h = absurd (refusal_told_fault why _ _ h)
placed_told_whole (Err (unplaced.Refused why)) (Err (unplaced.Refused why')) h = ap (λ (w : Refusal). Err (unplaced.Refused w)) (refusal_told_whole why why' h)
placed_told_whole (Err (unplaced.Refused why)) (Err (unplaced.Blocked why' b)) h = absurd (omega (arith, ap (λ (t : Told ℕ). length t.1) h))
placed_told_whole (Err (unplaced.Blocked why b)) (Ok e) h = absurd (refusal_told_fault why _ _ h)
placed_told_whole (Err (unplaced.Blocked why b)) (Err (unplaced.Refused why')) h = absurd (omega (arith, ap (λ (t : Told ℕ). length t.1) h))
placed_told_whole (Err (unplaced.Blocked why b)) (Err (unplaced.Blocked why' b')) h =
    ap₂ (λ (w : Refusal) (n : ℕ). Err (unplaced.Blocked w n))
    (same_refusal why why' (ap (λ (t : Told ℕ). t.0) h) (ap (λ (t : Told ℕ). get_or t.1 0 0) h))
    (ap (λ (t : Told ℕ). get_or t.1 1 0) h)

-- along an order that lists each demand once, and which it does not refuse, first fit answers and writes what its rows say
module _ (v : View) (passes : check v ≡ Ok tt) (order starts blockers : List ℕ) (arranged : Arrange order (listing v.demand_count))
    (rows : List Row) (out : fitted v order ≡ placed rows) (room : v.demand_count ≤ length starts) (blockers-room : v.demand_count ≤ length blockers) where
  -- the tests of first fit pass
  tested : check_first_fit v order (length starts ∷ length blockers ∷ []) ≡ Ok tt
  tested = all_pass v passes order arranged (length starts) (length blockers) room blockers-room

  -- it replies with the end of the rows
  pub order_placed : first_fit_reply v order (length starts ∷ length blockers ∷ []) ≡ Ok (top (problem_of v) rows)
  unfolding fitted_reply
  order_placed = fitted_answers v order (length starts ∷ length blockers ∷ []) tested ∙ ap (fitted_reply v) out

  -- and writes their starts
  pub order_starts : first_fit_starts v order (length starts ∷ length blockers ∷ []) starts ≡ over (starts_of v.demand_count rows) starts
  unfolding fitted_starts
  order_starts =
      fitted_writes v order (length starts ∷ length blockers ∷ []) tested starts
      ∙ ap (λ (o : Fitted). fitted_starts v.demand_count o starts) out

  -- and their blockers
  pub order_blockers :
      first_fit_blockers v order (length starts ∷ length blockers ∷ []) blockers ≡ over (blockers_of (problem_of v) v.demand_count rows) blockers
  unfolding fitted_blockers
  order_blockers =
      fitted_names v order (length starts ∷ length blockers ∷ []) tested blockers ∙ ap (λ (o : Fitted). fitted_blockers v o blockers) out
