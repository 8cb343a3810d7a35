-- Definitions that no promise speaks of: what loops keep, and what proofs pass on.
pub mod Filling
pub mod Meeting
pub mod Need
pub mod Small
pub mod Word
