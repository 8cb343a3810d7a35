-- Whole groups: what they reply, and what that promises.
pub mod Reply
pub mod ReplyLaws
pub mod TableLaws
pub mod MembersLaws
pub mod PlaceLaws
pub mod WalkLaws
pub mod StartLaws
pub mod AnswerLaws
pub mod Promise
pub mod PromiseLaws
pub mod inner
