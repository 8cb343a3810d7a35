-- Definitions that no promise speaks of.
pub mod Beside
pub mod Near
pub mod Standing
