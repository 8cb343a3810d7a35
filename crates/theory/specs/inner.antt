-- Definitions that no promise speaks of: what loops keep, and what proofs pass on.
pub mod Scan
pub mod Bound
pub mod Tried
pub mod Promises
pub mod AsLow
pub mod Clashes
pub mod Grouped
