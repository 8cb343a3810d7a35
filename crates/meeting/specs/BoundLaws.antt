-- No allowed plan ends below the bound: the demands on one link all share it, so they need their widths and a guard between each two.
use Prim.Native.Nat.{ℕ, zero, suc, ◌+◌, ◌-◌, ◌*◌, ◌≤◌, ◌<◌}
use Rattle.std.specs.Prelude.{true, cond, ◌≡◌, length}
use mathlib.Core.List.{List, [], ◌∷◌, ◌++◌, append_assoc, Memᴰ}
use Rattle.std.proofs.Common.{⊎_elim, sym, ap, ap₂, ◌∙◌, add-one, length-append}
use Rattle.std.proofs.Math.Path.{refl, subst}
use native.Mathlib.Omega.{arith}
use Rattle.std.proofs.Math.Seq.{get_or-append_seam}
use Rattle.theory.specs.Problem.{Allowed, plan_end}
use Rattle.theory.specs.inner.Bound.{widths, AllMeet}
use Rattle.theory.proofs.BoundLaws.{constant_bound}
use Rattle.theory.specs.Earlier.{Chained, Rising}
use Rattle.theory.proofs.EarlierLaws.{rising_no_repeats}
use Rattle.theory.specs.Orders.{listing}
use Rattle.theory.proofs.ListingLaws.{listing_mem}
use Rattle.theory.proofs.TestLaws.{by_test}
use Rattle.request.specs.View.{DemandView, View, demand_at, no_demand, width_of}
use Rattle.request.specs.Check.{has}
use Rattle.request.specs.Sound.{SoundRequest}
use Rattle.request.specs.Sharing.{problem_of}
use Rattle.meeting.specs.Bound.{width_on, demands_on, link_bound, bound_over, bound_of}
use Rattle.meeting.specs.Plan.{start_at, AllowedPlan, end_of_plan}
use Rattle.meeting.specs.PlanLaws.{sharing, slots_to_ends}
use Rattle.meeting.specs.PlanEndLaws.{plan_end_is}

-- the listing positions, from k on, of the demands on a link
riders : ℕ → ℕ → List DemandView → List ℕ
riders link k [] = []
riders link k (d ∷ demands) = cond (has link d.route) (k ∷ riders link (suc k) demands) (riders link (suc k) demands)

-- how many they are
riders_length : (link k : ℕ) (demands : List DemandView) → length (riders link k demands) ≡ demands_on link demands
unfolding riders demands_on
riders_length link k [] = refl
riders_length link k (d ∷ demands) =
    by_test (has link d.route)
    (λ t. rw t (ap suc (riders_length link (suc k) demands) ∙ omega arith))
    (λ f. rw f (riders_length link (suc k) demands))

-- none comes before k
riders_from : (link k : ℕ) (demands : List DemandView) (i : ℕ) → Memᴰ i (riders link k demands) → k ≤ i
unfolding riders
riders_from link k [] i m = absurd (mathlib.Core.List.Memᴰ.not-nil m)
riders_from link k (d ∷ demands) i m =
    by_test (has link d.route)
    (λ t.
    let here : Memᴰ i (k ∷ riders link (suc k) demands) = rw t at m in
    ⊎_elim (λ (e : i ≡ k). omega arith) (λ r. let h = riders_from link (suc k) demands i r in omega arith) (mathlib.Core.List.Memᴰ.cases_cons here))
    (λ f.
    let later : Memᴰ i (riders link (suc k) demands) = rw f at m in
    let h = riders_from link (suc k) demands i later in omega arith)

-- they rise
riders_rising : (link k : ℕ) (demands : List DemandView) → Rising (riders link k demands)
unfolding riders Rising Chained
riders_rising link k [] = tt
riders_rising link k (d ∷ demands) =
    by_test (has link d.route)
    (λ t. rw t ((λ i m. riders_from link (suc k) demands i m), riders_rising link (suc k) demands))
    (λ f. rw f (riders_rising link (suc k) demands))

-- the first demand behind some others, and the others with it
demand_here : (v : View) (front : List DemandView) (d : DemandView) (demands : List DemandView) → v.demands ≡ front ++ d ∷ demands →
    demand_at v.demands (length front) ≡ d
unfolding demand_at
demand_here v front d demands e =
    ap (λ (ds : List DemandView). demand_at ds (length front)) e ∙ get_or-append_seam front d demands no_demand

one_on : (v : View) (front : List DemandView) (d : DemandView) (demands : List DemandView) → v.demands ≡ front ++ d ∷ demands →
    v.demands ≡ (front ++ (d ∷ [])) ++ demands
one_on v front d demands e = e ∙ sym (append_assoc front (d ∷ []) demands)

grown : (front : List DemandView) (d : DemandView) (k : ℕ) → length front ≡ k → length (front ++ (d ∷ [])) ≡ suc k
grown front d k n = length-append front (d ∷ []) ∙ add-one (length front) ∙ ap suc n

-- each is a listing position whose demand is on the link
riders_on : (v : View) (link : ℕ) (front demands : List DemandView) → v.demands ≡ front ++ demands → (k : ℕ) → length front ≡ k →
    (i : ℕ) → Memᴰ i (riders link k demands) → (i < k + length demands) × (has link (demand_at v.demands i).route ≡ true)
unfolding riders
riders_on v link front [] e k n i m = absurd (mathlib.Core.List.Memᴰ.not-nil m)
riders_on v link front (d ∷ demands) e k n i m =
    let rest : Memᴰ i (riders link (suc k) demands) → (i < k + suc (length demands)) × (has link (demand_at v.demands i).route ≡ true) =
    λ r. let on = riders_on v link (front ++ (d ∷ [])) demands (one_on v front d demands e) (suc k) (grown front d k n) i r in
    (omega (arith, on.0), on.1) in
    by_test (has link d.route)
    (λ t.
    let here : Memᴰ i (k ∷ riders link (suc k) demands) = rw t at m in
    ⊎_elim
    (λ (same : i ≡ k). (
      omega arith,
      subst (λ (j : ℕ). has link (demand_at v.demands j).route ≡ true) (n ∙ sym same)
          (subst (λ (x : DemandView). has link x.route ≡ true) (sym (demand_here v front d demands e)) t),
    ))
    rest
    (mathlib.Core.List.Memᴰ.cases_cons here))
    (λ f. rest (rw f at m))

-- the sum of their widths
riders_widths : (v : View) (link : ℕ) (front demands : List DemandView) → v.demands ≡ front ++ demands → (k : ℕ) → length front ≡ k →
    widths (problem_of v) (riders link k demands) ≡ width_on link demands
unfolding riders width_on widths problem_of
riders_widths v link front [] e k n = refl
riders_widths v link front (d ∷ demands) e k n =
    let rest = riders_widths v link (front ++ (d ∷ [])) demands (one_on v front d demands e) (suc k) (grown front d k n) in
    by_test (has link d.route)
    (λ t. rw t
    (ap₂ ◌+◌ (ap (λ (x : DemandView). width_of x) (subst (λ (j : ℕ). demand_at v.demands j ≡ d) n (demand_here v front d demands e))) rest))
    (λ f. rw f rest)

module _ (v : View) (sound : SoundRequest v) (counted : length v.demands ≡ v.demand_count) (S : ℕ) (plan : ℕ → ℕ)
    (allowed : Allowed (problem_of v) S [] (listing v.demand_count) plan) where
  -- what one link needs is no more than the plan's end
  pub link_bound_below : (link : ℕ) → link_bound v link ≤ plan_end (problem_of v) [] (listing v.demand_count) plan
  unfolding link_bound AllMeet problem_of
  link_bound_below link =
      subst (λ (n : ℕ). width_on link v.demands + v.band.guard * (n - 1) ≤ end) (riders_length link 0 v.demands)
      (subst (λ (w : ℕ). w + v.band.guard * (length group - 1) ≤ end) (riders_widths v link [] v.demands refl 0 refl)
      (constant_bound (problem_of v) v.band.guard (λ i j. refl) S [] (listing v.demand_count) group plan allowed
      (rising_no_repeats group (riders_rising link 0 v.demands))
      (λ i m. listing_mem v.demand_count i (placed i m))
      (λ i m. (sound.demands_sound i (placed i m)).some_width)
      (λ i j m n different. sharing link (demand_at v.demands i).route (demand_at v.demands j).route (on i m).1 (on j n).1)))
    where
      group : List ℕ
      group = riders link 0 v.demands

      end : ℕ
      end = plan_end (problem_of v) [] (listing v.demand_count) plan

      on : (i : ℕ) → Memᴰ i group → (i < 0 + length v.demands) × (has link (demand_at v.demands i).route ≡ true)
      on i m = riders_on v link [] v.demands refl 0 refl i m

      placed : (i : ℕ) → Memᴰ i group → i < v.demand_count
      placed i m = let h = (on i m).0 in omega arith

  bound_over_below : (n : ℕ) → bound_over v n ≤ plan_end (problem_of v) [] (listing v.demand_count) plan
  unfolding bound_over
  bound_over_below zero = omega arith
  bound_over_below (suc n) = omega (arith, bound_over_below n, link_bound_below n)

  -- the bound is no more than the plan's end
  pub bound_below : bound_of v ≤ plan_end (problem_of v) [] (listing v.demand_count) plan
  unfolding bound_of
  bound_below = bound_over_below v.link_count

-- no allowed plan of a sound request ends below the bound
pub plan_above_bound : (v : View) → SoundRequest v → length v.demands ≡ v.demand_count →
    ((i : ℕ) → i < v.demand_count → length (demand_at v.demands i).route ≡ (demand_at v.demands i).hops) →
    (starts : List ℕ) → AllowedPlan v starts → bound_of v ≤ end_of_plan v starts
plan_above_bound v sound counted whole starts allowed =
    subst (λ (e : ℕ). bound_of v ≤ e) (sym (plan_end_is v starts counted))
    (bound_below v sound counted v.band.slots (start_at starts) (slots_to_ends v starts sound whole allowed))
