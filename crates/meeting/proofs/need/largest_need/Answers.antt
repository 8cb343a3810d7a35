use Rattle.std.proofs.Common.{◌≡◌, max, ap₂, ◌∙◌, rules}
use Rattle.meeting.specs.NeedLaws.{bound_none, bound_more}
use Rattle.meeting.proofs.need.largest_need.Goals as goal

pub loop-link-init : goal.loop-link-init
loop-link-init c = λ v is. bound_none v

pub loop-link-preserved : goal.loop-link-preserved
loop-link-preserved c =
    let most : c.max-most.result ≡ max c.loop-link.most c.link_need.result = search rules in
    λ v is. most ∙ ap₂ max (c.loop-link.invariant v is) (c.link_need.ensures v is) ∙ bound_more v c.loop-link.link
