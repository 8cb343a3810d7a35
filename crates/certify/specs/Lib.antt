-- Certificates: what they are, and what they prove.
pub mod Reply
pub mod SetsLaws
pub mod SumLaws
pub mod PairLaws
pub mod ReplyLaws
pub mod PlanLaws
pub mod SmallLaws
pub mod Promise
pub mod PromiseLaws
pub mod inner
