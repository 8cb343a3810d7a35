-- The check by listing position, of a request made small, is the check of the request.
use Rattle.std.specs.Prelude.{ℕ, suc, ◌+◌, ◌≤◌, ◌<◌, ◌≡◌, refl, Ok}
use mathlib.Core.List.{List, [], ◌∷◌}
use Rattle.std.proofs.Math.Path.{sym, ap, subst}
use Rattle.std.proofs.Common.{ap₂, ◌∙◌, arith, add-one}
use Rattle.std.proofs.Math.ListN.{length}
use Rattle.refusal.specs.declared.Refusal.TheVariants.{EndAbove}
use Rattle.grid.specs.Grid.{end_within}
use Rattle.theory.specs.Problem.{Problem, plan_end}
use Rattle.theory.specs.Orders.{listing}
use Rattle.request.specs.declared.Request.{Request}
use Rattle.request.specs.View.{DemandView, View, view, demand_at, width_of}
use Rattle.request.specs.Whole.{Whole}
use Rattle.request.specs.Check.{check, then, must}
use Rattle.request.proofs.SoundLaws.{check_sound, whole_counted}
use Rattle.request.proofs.LimitsLaws.{checked_limits}
use Rattle.request.proofs.CheckLaws.{first_sound}
use Rattle.request.specs.Sound.{SoundRequest}
use Rattle.request.specs.Sharing.{problem_of}
use Rattle.request.specs.inner.Limits.{Limits}
use Rattle.meeting.specs.declared.Compact.{Compact}
use Rattle.meeting.specs.Compact.{compact_of}
use Rattle.meeting.specs.inner.Small.{problem_in, Small}
use Rattle.meeting.specs.CompactLaws.{small_problem, small}
use Rattle.meeting.specs.Plan.{start_at, end_of_plan}
use Rattle.meeting.specs.PlanEndLaws.{plan_end_is}
use Rattle.plan.specs.CheckStarts.{check_end, check_ends, check_clash, check_clashes, check_places}
use Rattle.plan.specs.CheckStartsLaws.{each_within}
use Rattle.plan.specs.inner.Rows.{rows_before, ends_from, clashes_from, places_from, EndsWithin}

-- 17 over the demands from a position on
ends_listed : (P : Problem) (S : ℕ) (starts : List ℕ) (k : ℕ) (demands : List DemandView) →
    ((p : ℕ) → p < length demands → P.width (k + p) ≡ width_of (demand_at demands p)) →
    ends_from P S starts k (length demands) ≡ check_ends S starts k demands
unfolding ends_from check_ends check_end demand_at
ends_listed P S starts k [] wide = refl
ends_listed P S starts k (d ∷ demands) wide =
    ap₂ then
    (ap (λ (w : ℕ). must (end_within S (start_at starts k) w) (EndAbove k)) (ap P.width (let e : k ≡ k + 0 = omega arith in e) ∙ wide 0 (omega arith)))
    (ends_listed P S starts (k + 1) demands
    (λ p l. ap P.width (let e : k + 1 + p ≡ k + suc p = omega arith in e) ∙ wide (suc p) (omega arith)))

-- 18 over the demands from a position on
clashes_listed : (P : Problem) (starts : List ℕ) (k : ℕ) (demands : List DemandView) →
    clashes_from P starts k (length demands) ≡ check_clashes P starts (rows_before starts k) k demands
unfolding clashes_from check_clashes rows_before
clashes_listed P starts k [] = refl
clashes_listed P starts k (d ∷ demands) =
    ap (then (check_clash P starts (rows_before starts k) k))
    (clashes_listed P starts (k + 1) demands
    ∙ ap (λ (n : ℕ). check_clashes P starts (rows_before starts n) (k + 1) demands) (add-one k))

-- both over all demands
places_listed : (v : View) (starts : List ℕ) → length v.demands ≡ v.demand_count →
    places_from (problem_of v) v.band.slots starts v.demand_count ≡ check_places v starts
unfolding places_from check_places problem_of rows_before
places_listed v starts counted =
    ap (places_from (problem_of v) v.band.slots starts) (sym counted)
    ∙ ap₂ then
    (ends_listed (problem_of v) v.band.slots starts 0 v.demands
    (λ p l. ap (λ (n : ℕ). width_of (demand_at v.demands n)) (let e : 0 + p ≡ p = omega arith in e)))
    (clashes_listed (problem_of v) starts 0 v.demands)

-- what is known of a request that passes its test
pub passed : (r : Request) → Whole r → check (view r) ≡ Ok tt → Limits (view r) × SoundRequest (view r)
passed r full passes = (checked_limits r full passes, check_sound (view r) (whole_counted r full) passes)

module _ (v : View) (sound : SoundRequest v) (limits : Limits v) (c : Compact) (is : c ≡ compact_of v) where
  -- a sound request made small keeps its limits
  pub small_kept : Small c
  small_kept = subst Small (sym is) (small v sound limits)

  module _ (starts : List ℕ) where
    -- there are as many starts as it has demands
    pub small_enough : v.demand_count ≤ length starts → c.count ≤ length starts
    unfolding compact_of
    small_enough enough = subst (λ (d : Compact). d.count ≤ length starts) (sym is) enough

    -- 17 and 18 say the same of it
    pub small_places : places_from (problem_in c) c.slots starts c.count ≡ check_places v starts
    unfolding compact_of
    small_places =
        ap (λ (d : Compact). places_from (problem_in d) d.slots starts d.count) is
        ∙ ap (λ (P : Problem). places_from P v.band.slots starts v.demand_count) (small_problem v sound limits)
        ∙ places_listed v starts limits.demands_there

    -- where they pass, each demand ends within the band
    pub small_within : check_places v starts ≡ Ok tt → EndsWithin (problem_in c) c.slots starts c.count
    unfolding check_places compact_of problem_of
    small_within passed =
        subst (λ (d : Compact). EndsWithin (problem_in d) d.slots starts d.count) (sym is)
        (subst (λ (P : Problem). EndsWithin P v.band.slots starts v.demand_count) (sym (small_problem v sound limits))
        (record {
          each = λ k h.
              each_within v.band.slots starts v.demands
              (first_sound (check_ends v.band.slots starts 0 v.demands) (check_clashes (problem_of v) starts [] 0 v.demands) passed)
              k (omega (arith, limits.demands_there));
        }))

    -- and the plan's end is the same
    pub small_end : plan_end (problem_in c) [] (listing c.count) (start_at starts) ≡ end_of_plan v starts
    unfolding compact_of
    small_end =
        ap (λ (d : Compact). plan_end (problem_in d) [] (listing d.count) (start_at starts)) is
        ∙ ap (λ (P : Problem). plan_end P [] (listing v.demand_count) (start_at starts)) (small_problem v sound limits)
        ∙ sym (plan_end_is v starts limits.demands_there)
