-- A certificate keeps its promise: that pairs and threes pass is enough, and then no allowed plan ends lower.
use Rattle.refusal.specs.declared.Refusal.{Refusal}
use Prim.Native.Nat.{ℕ, zero, suc, ◌+◌, ◌-◌, ◌≤◌, ◌<◌}
use Rattle.std.specs.Prelude.{Bool, true, cond, ◌&&◌, ◌||◌, List, [], ◌∷◌, ◌≡◌, refl, leb, eqb, length, Result, Ok, Err}
use Rattle.std.proofs.Math.Bool.{false, not}
use Rattle.std.proofs.lemmas.Bool.{false≢true}
use Rattle.std.proofs.Math.Logic.{⊎_elim}
use Rattle.std.proofs.Common.{sym, ◌∙◌}
use Rattle.std.proofs.Math.Path.{ap, ap₂, subst}
use native.Mathlib.Omega.{arith}
use Rattle.std.proofs.Math.Dec.{ltb}
use Rattle.std.proofs.Math.ListN.{get_or}
use borrow.Author.Tests.{leb-true, ltb-false, lt-ltb, eqb-true, eqb-false, not-true}
use Rattle.refusal.specs.declared.Refusal.TheVariants.{NoCertificate}
use Rattle.refusal.specs.Told.{Told}
use Rattle.refusal.specs.ToldLaws.{refusal_told_whole, refusal_told_fault}
use Rattle.theory.specs.Problem.{Problem}
use Rattle.theory.proofs.TestLaws.{by_test, or_first, or_second}
use Rattle.theory.proofs.TriedLaws.{below_or_not}
use Rattle.theory.specs.Certificate.{Certificate, certified_end}
use Rattle.theory.proofs.CertificateLaws.{certificate_holds, certified_below, threes_enough}
use Rattle.request.specs.declared.Request.{Request}
use Rattle.request.specs.View.{View, view}
use Rattle.request.specs.Check.{must}
use Rattle.request.proofs.CheckLaws.{first_sound, next_sound, test_held}
use Rattle.request.specs.Sharing.{problem_of}
use Rattle.request.specs.Whole.{Whole, Counted}
use Rattle.request.specs.Sound.{SoundRequest}
use Rattle.request.proofs.SoundLaws.{check_sound, whole_counted}
use Rattle.request.specs.inner.Limits.{Limits}
use Rattle.request.proofs.LimitsLaws.{sound_limits}
use Rattle.meeting.specs.Plan.{AllowedPlan, end_of_plan, start_at}
use Rattle.meeting.specs.PlanLaws.{slots_to_ends}
use Rattle.meeting.specs.PlanEndLaws.{plan_end_is}
use Rattle.plan.specs.CheckStarts.{starts_reply}
use Rattle.plan.specs.AcceptableLaws.{accepted_allowed}
use Rattle.certify.specs.declared.Certified.{Certified}
use Rattle.certify.specs.declared.Certified.TheVariants.{Best, AtLeast}
use Rattle.certify.specs.Reply.{weight_of, check_weights, some_from, weighs_beside, heavy_three, heavy_with, check_sets, check_certificate, sum_of, low_of, end_told, told_after, certified_with, after_plan, certify_reply, certified_told}
use Rattle.certify.specs.inner.Sets.{checked_in}
use Rattle.certify.specs.ReplyLaws.{passed_shape, passed_rest}
use Rattle.certify.specs.PlanLaws.{accepted_sound}
use Rattle.certify.specs.Promise.{NoneBelow, PlanEnds, Promised}

-- no weight is above a
weights_light : (a k : ℕ) (weights : List ℕ) → check_weights a k weights ≡ Ok tt → (i : ℕ) → i < length weights → get_or weights i 0 ≤ a
unfolding check_weights
weights_light a k [] passes i h = absurd (omega arith)
weights_light a k (w ∷ weights) passes zero h =
    leb-true w a (test_held (leb w a) (NoCertificate k) (first_sound (must (leb w a) (NoCertificate k)) (check_weights a (k + 1) weights) passes))
weights_light a k (w ∷ weights) passes (suc i) h =
    weights_light a (k + 1) weights (next_sound (must (leb w a) (NoCertificate k)) (check_weights a (k + 1) weights) passes) i (omega arith)

-- a test that none passes
some_false : (test : ℕ → Bool) (k n : ℕ) → some_from test k n ≡ false → (i : ℕ) → k ≤ i → i < k + n → test i ≡ false
unfolding some_from
some_false test k zero none i low high = absurd (omega arith)
some_false test k (suc n) none i low high =
    ⊎_elim
    (λ (later : k < i). some_false test (k + 1) n (or_second (test k) (some_from test (k + 1) n) none) i (omega arith) (omega arith))
    (λ (here : i ≤ k). ap test (let e : i ≡ k = omega arith in e) ∙ or_first (test k) (some_from test (k + 1) n) none)
    (below_or_not k i)

-- a test of two parts of which the first holds
and_rest : (p q : Bool) → (p && q) ≡ false → p ≡ true → q ≡ false
and_rest true q e h = e
and_rest false q e h = absurd (false≢true h)

module _ (P : Problem) (weights : List ℕ) (a K : ℕ) where
  -- no demand is the first of a heavy pair or three
  sets_light : (i n : ℕ) → check_sets P weights a K i n ≡ Ok tt → (j : ℕ) → i ≤ j → j < i + n → heavy_with P weights a K j ≡ false
  unfolding check_sets
  sets_light i zero passes j low high = absurd (omega arith)
  sets_light i (suc n) passes j low high =
      let first = first_sound (must (not (heavy_with P weights a K i)) (NoCertificate i)) (check_sets P weights a K (i + 1) n) passes in
      ⊎_elim
      (λ (later : i < j).
      sets_light (i + 1) n (next_sound (must (not (heavy_with P weights a K i)) (NoCertificate i)) (check_sets P weights a K (i + 1) n) passes) j (omega arith) (omega arith))
      (λ (here : j ≤ i).
      ap (heavy_with P weights a K) (let e : j ≡ i = omega arith in e)
      ∙ not-true (heavy_with P weights a K i) (test_held (not (heavy_with P weights a K i)) (NoCertificate i) first))
      (below_or_not i j)

  module _ (light : (i : ℕ) → i < K → get_or weights i 0 ≤ a) (none : (i : ℕ) → i < K → heavy_with P weights a K i ≡ false) where
    -- what is said of two demands that weigh something and share no link
    beside : (i j : ℕ) → P.joined i j ≡ false → 0 < get_or weights j 0 → weighs_beside P weights a K i j ≡ true
    unfolding weighs_beside weight_of
    beside i j e some = ap₂ (λ (p w : Bool). not p && w) e (lt-ltb 0 (get_or weights j 0) some)

    pair_says : (i j : ℕ) → i < j → j < K → P.joined i j ≡ false → 0 < get_or weights i 0 → 0 < get_or weights j 0 →
        (ltb a (get_or weights i 0 + get_or weights j 0) || heavy_three P weights a K i j) ≡ false
    unfolding heavy_with weight_of
    pair_says i j before inside e some-i some-j =
        let later = and_rest (ltb 0 (get_or weights i 0)) _ (none i (omega arith)) (lt-ltb 0 (get_or weights i 0) some-i) in
        and_rest (weighs_beside P weights a K i j) _
        (some_false (λ k. weighs_beside P weights a K i k && (ltb a (get_or weights i 0 + get_or weights k 0) || heavy_three P weights a K i k)) (i + 1) (K - (i + 1)) later j
        (omega arith) (omega arith))
        (beside i j e some-j)

    pairs_light : (i j : ℕ) → i < j → j < K → P.joined i j ≡ false → get_or weights i 0 + get_or weights j 0 ≤ a
    pairs_light i j before inside e =
        ⊎_elim
        (λ (some-i : 0 < get_or weights i 0).
        ⊎_elim
        (λ (some-j : 0 < get_or weights j 0).
        ltb-false a (get_or weights i 0 + get_or weights j 0)
        (or_first (ltb a (get_or weights i 0 + get_or weights j 0)) (heavy_three P weights a K i j) (pair_says i j before inside e some-i some-j)))
        (λ (none-j : get_or weights j 0 ≤ 0). omega (arith, light i (omega arith)))
        (below_or_not 0 (get_or weights j 0)))
        (λ (none-i : get_or weights i 0 ≤ 0). omega (arith, light j inside))
        (below_or_not 0 (get_or weights i 0))

    threes_light : (i j k : ℕ) → i < j → j < k → k < K → P.joined i j ≡ false → P.joined i k ≡ false → P.joined j k ≡ false →
        get_or weights i 0 + get_or weights j 0 + get_or weights k 0 ≤ a
    unfolding heavy_three weight_of
    threes_light i j k ij jk inside eij eik ejk =
        ⊎_elim
        (λ (some-i : 0 < get_or weights i 0).
        ⊎_elim
        (λ (some-j : 0 < get_or weights j 0).
        ⊎_elim
        (λ (some-k : 0 < get_or weights k 0).
        let three = or_second (ltb a (get_or weights i 0 + get_or weights j 0)) (heavy_three P weights a K i j) (pair_says i j ij (omega arith) eij some-i some-j) in
        let third =
        some_false
        (λ x. weighs_beside P weights a K i x && (weighs_beside P weights a K j x && ltb a (get_or weights i 0 + get_or weights j 0 + get_or weights x 0)))
        (j + 1) (K - (j + 1)) three k (omega arith) (omega arith) in
        ltb-false a (get_or weights i 0 + get_or weights j 0 + get_or weights k 0)
        (and_rest (weighs_beside P weights a K j k) _
        (and_rest (weighs_beside P weights a K i k) _ third (beside i k eik some-k)) (beside j k ejk some-k)))
        (λ (none-k : get_or weights k 0 ≤ 0). omega (arith, pairs_light i j ij (omega arith) eij))
        (below_or_not 0 (get_or weights k 0)))
        (λ (none-j : get_or weights j 0 ≤ 0). omega (arith, pairs_light i k (omega arith) inside eik))
        (below_or_not 0 (get_or weights j 0)))
        (λ (none-i : get_or weights i 0 ≤ 0). omega (arith, pairs_light j k jk inside ejk))
        (below_or_not 0 (get_or weights i 0))

module _ (v : View) (weights : List ℕ) (a : ℕ) (passes : check_certificate v weights a ≡ Ok tt) where
  -- a certificate that passed its test is one
  pub passed_certificate : Certificate (problem_of v) v.demand_count (weight_of weights) a
  unfolding weight_of check_certificate checked_in
  passed_certificate =
      let shape = passed_shape (problem_of v) v.demand_count weights a passes in
      let rest = passed_rest (problem_of v) v.demand_count weights a passes in
      let K : ℕ = v.demand_count in
      let light : (i : ℕ) → i < K → get_or weights i 0 ≤ a = λ i h. weights_light a 0 weights rest.0 i (omega (arith, shape.0)) in
      let none : (i : ℕ) → i < K → heavy_with (problem_of v) weights a K i ≡ false =
      λ i h. sets_light (problem_of v) weights a K 0 K rest.1 i (omega arith) (omega arith) in
      threes_enough (problem_of v) K (weight_of weights) a shape.2 light
      (pairs_light (problem_of v) weights a K light none)
      (threes_light (problem_of v) weights a K light none)

  -- so no allowed plan whatsoever ends below the end that it gives
  pub certificate_proves : SoundRequest v → Limits v → NoneBelow v (low_of v weights a)
  unfolding NoneBelow low_of sum_of problem_of check_certificate checked_in
  certificate_proves sound limits other allowed =
      let P : Problem = problem_of v in
      let G : ℕ = v.band.guard in
      let K : ℕ = v.demand_count in
      subst (λ (e : ℕ). certified_end G a (sum_of v weights) ≤ e) (sym (plan_end_is v other limits.demands_there))
      (certified_below G a (sum_of v weights) _ (passed_shape P K weights a passes).1
      (certificate_holds P G (weight_of weights) (start_at other) v.band.slots (λ i j. refl) K
      (slots_to_ends v other sound limits.routes_there allowed) a passed_certificate))

-- a plan that is allowed does not end below it itself
none_own : (v : View) (low : ℕ) (starts : List ℕ) → AllowedPlan v starts → NoneBelow v low → low ≤ end_of_plan v starts
unfolding NoneBelow
none_own v low starts allowed proves = proves starts allowed

-- what is told of an accepted plan keeps its promise
told_kept : (v : View) (starts weights : List ℕ) (a end : ℕ) → PlanEnds v starts end → SoundRequest v → Limits v → (c : Result Unit Refusal) →
    check_certificate v weights a ≡ c → Promised v starts (told_after c (end_told (low_of v weights a) end))
unfolding told_after end_told Promised
told_kept v starts weights a end plan sound limits (Err why) is = tt
told_kept v starts weights a end plan sound limits (Ok _) is =
    let low : ℕ = low_of v weights a in
    let proves : NoneBelow v low = certificate_proves v weights a is sound limits in
    by_test (eqb low end)
    (λ t.
    subst (λ (b : Bool). Promised v starts (Ok (cond b (Best end) (AtLeast low end)))) (sym t)
    (plan, subst (NoneBelow v) (eqb-true low end t) proves))
    (λ f.
    subst (λ (b : Bool). Promised v starts (Ok (cond b (Best end) (AtLeast low end)))) (sym f)
    (plan, proves, above low end (eqb-false low end f) (reaches low proves)))
  where
    above : (low end : ℕ) → (low ≡ end → ⊥) → low ≤ end → low < end
    above low end differs h = omega (arith, differs)

    reaches : (low : ℕ) → NoneBelow v low → low ≤ end
    reaches low proves = subst (λ (e : ℕ). low ≤ e) plan.ends (none_own v low starts plan.acceptable.plan_allowed proves)

-- of a plan that was refused nothing is said
after_kept : (v : View) → Counted v → (starts weights : List ℕ) (a : ℕ) (r : Result ℕ Refusal) → starts_reply v starts ≡ r →
    Promised v starts (after_plan v weights a r)
unfolding after_plan certified_with Promised
after_kept v counted starts weights a (Err why) is = tt
after_kept v counted starts weights a (Ok end) is =
    let sound : SoundRequest v = check_sound v counted (accepted_sound v starts end is) in
    let good = accepted_allowed v counted starts end is in
    told_kept v starts weights a end (record { acceptable = good.0; ends = sym good.1 })
    sound (sound_limits v counted sound) (check_certificate v weights a) refl

-- a plan and a certificate keep their promise, whatever is seen, and whatever the starts, the weights and a were
pub certify_kept : (v : View) → Counted v → (starts weights : List ℕ) (a : ℕ) → Promised v starts (certify_reply v starts weights a)
unfolding certify_reply
certify_kept v counted starts weights a = after_kept v counted starts weights a (starts_reply v starts) refl

-- so they do of every request
pub certify_promise : (q : Request) → Whole q → (starts weights : List ℕ) (a : ℕ) →
    Promised (view q) starts (certify_reply (view q) starts weights a)
certify_promise q whole starts weights a = certify_kept (view q) (whole_counted q whole) starts weights a

-- two results that meet the contract are equal
pub same_certify : (v : View) (starts weights : List ℕ) (a : ℕ) (r r' : Result Certified Refusal) →
    r ≡ certify_reply v starts weights a → r' ≡ certify_reply v starts weights a → r ≡ r'
same_certify v starts weights a r r' h k = h ∙ sym k

-- two answers that are told alike are the same
pub certified_told_whole : (r r' : Result Certified Refusal) → certified_told r ≡ certified_told r' → r ≡ r'
unfolding certified_told
certified_told_whole (Ok (Best e)) (Ok (Best e')) h = ap (λ (t : Told ℕ). Ok (Best (get_or t.1 1 0))) h
certified_told_whole (Ok (Best e)) (Ok (AtLeast low e')) h = absurd (let z : ◌≡◌ {A = ℕ} 1 2 = ap (λ (t : Told ℕ). get_or t.1 0 0) h in omega arith)
certified_told_whole (Ok (Best e)) (Err why) h = absurd (refusal_told_fault why _ _ (sym h))
certified_told_whole (Ok (AtLeast low e)) (Ok (Best e')) h = absurd (let z : ◌≡◌ {A = ℕ} 2 1 = ap (λ (t : Told ℕ). get_or t.1 0 0) h in omega arith)
certified_told_whole (Ok (AtLeast low e)) (Ok (AtLeast low' e')) h =
    ap₂ (λ (low end : ℕ). Ok (AtLeast low end)) (ap (λ (t : Told ℕ). get_or t.1 1 0) h) (ap (λ (t : Told ℕ). get_or t.1 2 0) h)
certified_told_whole (Ok (AtLeast low e)) (Err why) h = absurd (refusal_told_fault why _ _ (sym h))
certified_told_whole (Err why) (Ok (Best e)) h = absurd (refusal_told_fault why _ _ h)
certified_told_whole (Err why) (Ok (AtLeast low e)) h = absurd (refusal_told_fault why _ _ h)
certified_told_whole (Err why) (Err why') h = ap Err (refusal_told_whole why why' h)
