-- Definitions that no promise speaks of: what loops keep, and what proofs pass on.
pub mod Route
pub mod Passes
pub mod Limits
pub mod Met
