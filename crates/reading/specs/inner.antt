-- Definitions that no promise speaks of: what loops keep, and what proofs pass on.
pub mod Fields
pub mod SoFar
pub mod Encoded
pub mod PartsPacking
