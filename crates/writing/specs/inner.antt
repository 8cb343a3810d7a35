pub mod Puts
-- Definitions that no promise speaks of: what loops keep, and what proofs pass on.
pub mod Ready
