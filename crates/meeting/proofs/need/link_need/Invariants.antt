use Rattle.std.proofs.Common.{◌≤◌, ◌*◌, length}
use Rattle.request.specs.View.{View}
use Rattle.meeting.specs.inner.Need.{NeedTo}
use Rattle.meeting.specs.inner.Small.{Compacted}
use Rattle.meeting.proofs.need.link_need.Given as goal

abbrev pub invariant-loop-word : goal.invariant-loop-word
invariant-loop-word l =
    record {
      widths_fit : l.widths ≤ 65535 * length l.yielded;
      users_fit : l.users ≤ length l.yielded;
      need : (v : View) → Compacted v l.compact → NeedTo v l.link (length l.yielded) l.widths l.users;
    }
