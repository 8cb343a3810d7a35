-- The plans of groups are accepted by the check of starts, with the end that groups tell.
use Rattle.std.specs.Prelude.{ℕ, List, [], ◌∷◌, ◌≡◌, length, take, Some, Ok}
use Rattle.std.proofs.Common.{ap, ◌∙◌}
use Rattle.theory.specs.Groups.{members}
use Rattle.request.specs.declared.Request.{Request}
use Rattle.request.specs.View.{View, view}
use Rattle.request.specs.Whole.{Whole}
use Rattle.placing.specs.FirstFit.{placed_told}
use Rattle.groups.specs.declared.Grouped.{Grouped}
use Rattle.groups.specs.Reply.{groups_reply, groups_starts}
use Rattle.groups.specs.PromiseLaws.{groups_written}
use Rattle.plan.specs.CheckStarts.{starts_reply, accepted_told}
use Rattle.plan.specs.AcceptableLaws.{first_fit_accepted}

-- the plan that groups write is accepted, with the end told, whatever the two buffers held: it is first fit's along the order told
pub grouped_accepted : (q : Request) → Whole q → (M : ℕ) (starts blockers : List ℕ) (plan : Grouped) →
    groups_reply (view q) M (length starts ∷ length blockers ∷ []) ≡ Ok (Some plan) →
    accepted_told (starts_reply (view q) (groups_starts (view q) M (length starts ∷ length blockers ∷ []) starts)) ≡ (0, plan.end ∷ [])
unfolding placed_told
grouped_accepted q whole M starts blockers plan told =
    let v : View = view q in
    let along : List ℕ = members v.demand_count M (take M plan.order) in
    let written = groups_written v M starts blockers plan told in
    ap (λ (s : List ℕ). accepted_told (starts_reply v s)) written.starts_are
    ∙ first_fit_accepted q whole along starts blockers plan.end (ap placed_told written.replies)
