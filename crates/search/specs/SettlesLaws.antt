-- When the search of a request settles the question: from the steps that it needs on, which are never more than the whole tree has.
use Rattle.std.specs.Prelude.{ℕ, ◌≤◌, [], ◌≡◌, refl}
use Rattle.std.proofs.Common.{sym, subst, ◌∙◌, arith}
use Rattle.theory.specs.Orders.{listing}
use Rattle.theory.proofs.ListingLaws.{listing_length}
use Rattle.theory.specs.Problem.{Problem}
use Rattle.theory.specs.Search as theory
use Rattle.theory.proofs.SettlesLaws.{enough_settles, settled_needed, settled_enough, needed_within_tree, tree_rises}
use Rattle.request.specs.View.{View}
use Rattle.request.specs.Sharing.{problem_of}
use Rattle.meeting.specs.Bound.{bound_of}
use Rattle.search.specs.Reply.{searched, outcome_told, answer_told}
use Rattle.search.specs.Demand3.{settles, steps_needed, SettlesExactly}

-- the call's outcome settles the question where the walk's does
pub settles_told : (o : theory.Outcome) → settles (outcome_told o) ≡ theory.settled o
unfolding settles outcome_told theory.settled
settles_told (theory.finished e) = refl
settles_told theory.nothing_fits = refl
settles_told (theory.unfinished e) = refl
settles_told theory.unfinished_empty = refl

-- what the search answers settles the question exactly from the steps needed on
pub settling : (v : View) (limit : ℕ) → SettlesExactly (steps_needed v) limit (answer_told (searched v limit))
unfolding searched answer_told steps_needed
settling v limit =
    let told : settles (outcome_told (searched v limit).outcome) ≡ theory.settled (searched v limit).outcome =
    settles_told (searched v limit).outcome in
    let P : Problem = problem_of v in
    record {
      settled_there = λ enough. told ∙ enough_settles P v.band.slots (bound_of v) [] (listing v.demand_count) limit enough;
      only_there = λ h. settled_enough P v.band.slots (bound_of v) [] (listing v.demand_count) limit (sym told ∙ h);
      steps_are = λ h. settled_needed P v.band.slots (bound_of v) [] (listing v.demand_count) limit (sym told ∙ h);
    }

-- no request needs more steps than the whole tree over its demands has
pub needed_within : (v : View) → steps_needed v ≤ theory.tree_steps v.demand_count
unfolding steps_needed
needed_within v =
    subst (λ (n : ℕ). steps_needed v ≤ theory.tree_steps n) (listing_length v.demand_count)
    (needed_within_tree (problem_of v) v.band.slots (bound_of v) [] (listing v.demand_count))

-- for up to twelve demands that is a number that a call can be given as its limit
pub twelve_within : (v : View) → v.demand_count ≤ 12 → steps_needed v ≤ 1302061344
unfolding theory.tree_steps
twelve_within v few =
    let most : ◌≡◌ {A = ℕ} (theory.tree_steps 12) 1302061344 = refl in
    omega (arith, needed_within v, tree_rises v.demand_count 12 few, most)
