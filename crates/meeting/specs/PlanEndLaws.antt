-- The end of a plan, as the mathematics has it.
use Rattle.std.specs.Prelude.{ℕ, suc, ◌+◌, max, List, [], ◌∷◌, ◌++◌, ◌≡◌, refl, length}
use Rattle.std.proofs.Common.{append_assoc, sym, subst, ap, ap₂, ◌∙◌, add-one, length-append}
use Rattle.std.proofs.Math.Seq.{get_or-append_seam}
use Rattle.theory.specs.Problem.{end_of, top, plan_end}
use Rattle.theory.specs.Orders.{count_up, listing}
use Rattle.request.specs.View.{DemandView, View, demand_at, no_demand, width_of}
use Rattle.request.specs.Sharing.{problem_of}
use Rattle.meeting.specs.Plan.{start_at, end_from, end_of_plan}

-- the demand behind the first ones of a list
demand_here : (front : List DemandView) (d : DemandView) (demands : List DemandView) → demand_at (front ++ d ∷ demands) (length front) ≡ d
unfolding demand_at
demand_here front d demands = get_or-append_seam front d demands no_demand

-- the end from a listing position on
end_from_lem : (v : View) (starts : List ℕ) (front demands : List DemandView) → v.demands ≡ front ++ demands →
    end_from starts (length front) demands ≡ plan_end (problem_of v) [] (count_up (length demands) (length front)) (start_at starts)
unfolding end_from count_up plan_end problem_of end_of top
end_from_lem v starts front [] e = refl
end_from_lem v starts front (d ∷ demands) e =
    ap₂ max
    (ap (λ (x : DemandView). start_at starts (length front) + width_of x) (sym (ap (λ (ds : List DemandView). demand_at ds (length front)) e ∙ demand_here front d demands)))
    (subst (λ (k : ℕ). end_from starts (length front + 1) demands ≡ plan_end (problem_of v) [] (count_up (length demands) k) (start_at starts)) grown
    (subst (λ (k : ℕ). end_from starts k demands ≡ plan_end (problem_of v) [] (count_up (length demands) (length (front ++ (d ∷ [])))) (start_at starts))
    (length-append front (d ∷ []))
    (end_from_lem v starts (front ++ (d ∷ [])) demands (e ∙ sym (append_assoc front (d ∷ []) demands)))))
  where
    grown : length (front ++ (d ∷ [])) ≡ suc (length front)
    grown = length-append front (d ∷ []) ∙ add-one (length front)

-- the plan's end is the end of its demands in listing order
pub plan_end_is : (v : View) (starts : List ℕ) → length v.demands ≡ v.demand_count →
    end_of_plan v starts ≡ plan_end (problem_of v) [] (listing v.demand_count) (start_at starts)
unfolding end_of_plan listing
plan_end_is v starts counted =
    subst (λ (n : ℕ). end_from starts 0 v.demands ≡ plan_end (problem_of v) [] (count_up n 0) (start_at starts)) counted
    (end_from_lem v starts [] v.demands refl)
