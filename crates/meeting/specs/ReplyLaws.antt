-- The replies of the call for the bound, one law for each way it can go; and what a bound promises.
use Rattle.std.specs.Prelude.{ℕ, ◌≤◌, List, [], ◌∷◌, ◌≡◌, refl, get_or, Result, Ok, Err}
use Rattle.std.proofs.Common.{sym, ap, subst, ◌∙◌, arith}
use Rattle.refusal.specs.declared.Refusal.{Refusal}
use Rattle.refusal.specs.Told.{Told}
use Rattle.refusal.specs.ToldLaws.{refusal_told_whole, refusal_told_fault}
use Rattle.request.specs.declared.Request.{Request}
use Rattle.request.specs.View.{View, view}
use Rattle.request.specs.Check.{check}
use Rattle.request.specs.Whole.{Whole}
use Rattle.request.proofs.SoundLaws.{check_sound, whole_counted}
use Rattle.request.proofs.LimitsLaws.{checked_limits}
use Rattle.meeting.specs.Bound.{bound_of}
use Rattle.meeting.specs.Plan.{AllowedPlan, end_of_plan}
use Rattle.meeting.specs.BoundLaws.{plan_above_bound}
use Rattle.meeting.specs.Reply.{bound_after, bound_reply, bound_told}

-- the bound of a request that passes its test
pub bound_answered : (v : View) (b : ℕ) → check v ≡ Ok tt → b ≡ bound_of v → Ok b ≡ bound_reply v
unfolding bound_reply bound_after
bound_answered v b passes e =
    ap Ok e ∙ sym (ap (λ (c : Result Unit Refusal). bound_after c (Ok (bound_of v))) passes)

-- the refusal of another
pub bound_refused : (v : View) (why : Refusal) → check v ≡ Err why → Err why ≡ bound_reply v
unfolding bound_reply bound_after
bound_refused v why fails = sym (ap (λ (c : Result Unit Refusal). bound_after c (Ok (bound_of v))) fails)

-- two results of the call are equal
pub same_bound : (v : View) (a b : Result ℕ Refusal) → a ≡ bound_reply v → b ≡ bound_reply v → a ≡ b
same_bound v a b ha hb = ha ∙ sym hb

-- two replies that are told alike are the same
pub bound_told_whole : (r r' : Result ℕ Refusal) → bound_told r ≡ bound_told r' → r ≡ r'
unfolding bound_told
bound_told_whole (Ok b) (Ok b') h = ap (λ (t : Told ℕ). Ok (get_or t.1 0 0)) h
bound_told_whole (Ok b) (Err why) h = absurd (refusal_told_fault why _ _ (sym h))
bound_told_whole (Err why) (Ok b) h = absurd (refusal_told_fault why _ _ h)
bound_told_whole (Err why) (Err why') h = ap Err (refusal_told_whole why why' h)

-- a bound in reply: the request passed its test, and this is its bound
bound_given : (c : Result Unit Refusal) (b found : ℕ) → bound_after c (Ok found) ≡ Ok b → (c ≡ Ok tt) × (found ≡ b)
unfolding bound_after
bound_given (Ok _) b found e = (refl, cc)
bound_given (Err why) b found e = absurd (let z : ◌≡◌ {A = ℕ} 0 1 = cc in omega arith)

-- no allowed plan ends below the bound that the call tells
pub bound_promise : (q : Request) → Whole q → (b : ℕ) → bound_told (bound_reply (view q)) ≡ (0, b ∷ []) →
    (starts : List ℕ) → AllowedPlan (view q) starts → b ≤ end_of_plan (view q) starts
unfolding bound_reply bound_told
bound_promise q whole b e starts allowed =
    let (passes, same) =
    bound_given (check (view q)) b (bound_of (view q)) (bound_told_whole (bound_reply (view q)) (Ok b) e) in
    let limits = checked_limits q whole passes in
    subst (λ (n : ℕ). n ≤ end_of_plan (view q) starts) same
    (plan_above_bound (view q) (check_sound (view q) (whole_counted q whole) passes) limits.demands_there limits.routes_there starts allowed)
