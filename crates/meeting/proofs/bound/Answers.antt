use Rattle.std.proofs.Common.{◌≡◌, sym, ◌∙◌, Ok, Err, rules}
use Rattle.request.proofs.Arrays.{whole}
use Rattle.request.specs.View.{view}
use Rattle.request.specs.declared.Request.{Request}
use Rattle.request.specs.Check.{check}
use Rattle.request.specs.Whole.{Whole}
use Rattle.request.proofs.SoundLaws.{check_sound, whole_counted}
use Rattle.request.proofs.LimitsLaws.{checked_limits}
use Rattle.meeting.specs.declared.Compact.{Compact}
use Rattle.meeting.specs.Bound.{bound_of}
use Rattle.meeting.specs.Compact.{compact_of}
use Rattle.meeting.specs.inner.Small.{Compacted}
use Rattle.meeting.specs.ReplyLaws.{bound_answered, bound_refused}
use Rattle.meeting.proofs.bound.Goals as goal

-- what is made small of a request that passes its check is sound
held : (q : Request) {small : Compact} → Whole q → check (view q) ≡ Ok tt → small ≡ compact_of (view q) → Compacted (view q) small
held q arrays sound is =
    record {
      sound = check_sound (view q) (whole_counted q arrays) sound;
      limits = checked_limits q arrays sound;
      is = is;
    }

pub largest_need-requires : goal.largest_need-requires
unfolding compact_of view
largest_need-requires c =
    let q = c.args.request in
    let limits = checked_limits q (whole q _ c.well_formed.0) (sym c.check_request.ensures ∙ c.in_ok-check_request.was) in
    (rw c.compacted-compact.ensures limits.most_demands, limits.most_links)

pub returns : goal.returns
unfolding bound_of view
returns c =
    let q = c.args.request in
    let sound = sym c.check_request.ensures ∙ c.in_ok-check_request.was in
    bound_answered (view q) c.largest_need.result sound
    (c.largest_need.ensures (view q) (held q (whole q _ c.well_formed.0) sound c.compacted-compact.ensures))

pub returns-in_err-check_request : goal.returns-in_err-check_request
returns-in_err-check_request c =
    let told : c.from_residual.result ≡ Err c.in_err-check_request.field-0.0 = search rules in
    told ∙ bound_refused (view c.args.request) _ (sym c.check_request.ensures ∙ c.in_err-check_request.was)
