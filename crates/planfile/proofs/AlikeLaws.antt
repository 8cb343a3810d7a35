-- Only the starts of the demands matter: starts that are the same for each demand are accepted, end and are written alike.
use Rattle.refusal.specs.declared.Refusal.{Refusal}
use Rattle.std.specs.Prelude.{ℕ, ◌≤◌, ◌<◌, ◌≡◌, length, take, Result, Ok}
use mathlib.Core.List.{List, [], ◌∷◌, ◌++◌, Memᴰ}
use Rattle.std.proofs.Math.Path.{refl, ap, ap₂}
use Rattle.std.proofs.Common.{sym, ◌∙◌, arith, get_or-take}
use Rattle.std.proofs.Math.ListN.{get_or-append}
use Rattle.theory.proofs.AlikeLaws.{plan_end_alike, allowed_alike}
use Rattle.theory.proofs.ListingLaws.{listing_below}
use Rattle.theory.specs.Orders.{listing}
use Rattle.request.specs.View.{View, demand_at}
use Rattle.request.specs.Sharing.{problem_of}
use Rattle.meeting.specs.Plan.{start_at, end_of_plan}
use Rattle.meeting.specs.PlanEndLaws.{plan_end_is}
use Rattle.plan.specs.AcceptableLaws.{reply_passed}
use Rattle.plan.specs.CheckStarts.{check_starts, reply_with, starts_reply}
use Rattle.plan.specs.CheckStartsLaws.{places_allowed, allowed_places, places_decide, each_passed}
use Rattle.planfile.specs.PlanFile.{row_field}
use Rattle.planfile.specs.RoundTrip.{rows_in_order}
use Rattle.planfile.specs.inner.Alike.{Alike}

module _ (v : View) (counted : length v.demands ≡ v.demand_count) (a b : List ℕ) (same : Alike v a b) where
  listed_same : (k : ℕ) → Memᴰ k (listing v.demand_count) → start_at a k ≡ start_at b k
  listed_same k m = same k (listing_below v.demand_count k m)

  -- they are accepted alike
  pub checked_alike : v.demand_count ≤ length b → check_starts v a ≡ Ok tt → check_starts v b ≡ Ok tt
  checked_alike enough h =
      let each = each_passed v a h in
      places_decide v b each.0 enough
      ∙ allowed_places v b counted
      (allowed_alike (problem_of v) (start_at a) (start_at b) v.band.slots [] (listing v.demand_count) listed_same (places_allowed v a counted each.3))

  -- they end alike
  pub end_alike : end_of_plan v a ≡ end_of_plan v b
  end_alike =
      plan_end_is v a counted
      ∙ (plan_end_alike (problem_of v) (start_at a) (start_at b) [] (listing v.demand_count) listed_same ∙ sym (plan_end_is v b counted))

  -- they are answered alike
  pub reply_alike : (end : ℕ) → v.demand_count ≤ length b → starts_reply v a ≡ Ok end → starts_reply v b ≡ Ok end
  unfolding starts_reply reply_with
  reply_alike end enough h =
      let passed = reply_passed (check_starts v a) (end_of_plan v a) end h in
      ap (λ (x : Result Unit Refusal). reply_with x (end_of_plan v b)) (checked_alike enough passed.0) ∙ ap Ok (sym end_alike ∙ passed.1)

  -- and their rows are the same
  pub rows_alike : (order : List ℕ) → ((k : ℕ) → Memᴰ k order → k < v.demand_count) → rows_in_order v a order ≡ rows_in_order v b order
  unfolding rows_in_order
  rows_alike [] listed = refl
  rows_alike (k ∷ order) listed =
      ap₂ (λ (n : ℕ) (rest : List ℕ). row_field (demand_at v.demands k).ident n ++ rest)
      (same k (listed k (Memᴰ.head refl))) (rows_alike order (λ j m. listed j (Memᴰ.tail m)))

-- the first starts are the same for each demand, and so are starts with more behind them
pub front_alike : (v : View) (starts : List ℕ) → Alike v starts (take v.demand_count starts)
unfolding start_at
front_alike v starts k h = sym (get_or-take v.demand_count starts k 0 h)

pub longer_alike : (v : View) (starts rest : List ℕ) → length starts ≡ v.demand_count → Alike v starts (starts ++ rest)
unfolding start_at
longer_alike v starts rest all k h = sym (get_or-append starts rest 0 k (omega arith))
