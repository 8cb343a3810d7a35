-- Definitions that no promise speaks of: what loops keep, and what proofs pass on.
pub mod Table
pub mod Members
pub mod Walk
pub mod Answer
