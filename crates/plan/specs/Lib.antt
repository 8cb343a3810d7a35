-- When starts are accepted as a plan.
pub mod CheckStarts
pub mod CheckStartsLaws
pub mod TurnLaws
pub mod SmallLaws
pub mod Acceptable
pub mod AcceptableLaws
pub mod inner
