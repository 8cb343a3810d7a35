-- Who shares a link with whom, the bound, and when a plan is allowed.
pub mod Plan
pub mod PlanLaws
pub mod FillingLaws
pub mod Row
pub mod AskedLaws
pub mod MeetingLaws
pub mod Compact
pub mod WordLaws
pub mod Bound
pub mod NeedLaws
pub mod CompactLaws
pub mod PlanEndLaws
pub mod BoundLaws
pub mod Reply
pub mod ReplyLaws
pub mod inner
pub mod MadeLaws
