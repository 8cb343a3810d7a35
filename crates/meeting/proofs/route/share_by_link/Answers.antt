use Rattle.std.proofs.Common.{ℕ, ◌∙◌, eqb, rules, tests}
use Rattle.std.specs.List.{list_any}
use Rattle.std.proofs.lemmas.Iterator.{YieldsList-from_slice}
use Rattle.std.proofs.lemmas.Iterator.Search.{any_from_yields_List}
use Rattle.meeting.specs.MeetingLaws.{share_some}
use Rattle.meeting.proofs.route.share_by_link.Goals as goal

pub returns : goal.returns
returns c =
    let other = c.args.other.now in
    any_from_yields_List (λ (x : ℕ). list_any (λ (y : ℕ). eqb y x) other) _ _ _ c.any.ensures.ran (YieldsList-from_slice c.args.route.now cc)
    (λ x b q k. search (rules, tests))
    ∙ share_some c.args.route.now other
