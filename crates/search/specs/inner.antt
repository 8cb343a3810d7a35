-- Definitions that no promise speaks of: what loops keep, and what proofs pass on.
pub mod Table
pub mod Arrays
pub mod Scan
pub mod Kept
pub mod Tally
pub mod Tries
pub mod Level
pub mod Told
pub mod Found
