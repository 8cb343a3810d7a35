-- The mathematics: what a problem is, what first fit does, which orders there are, what the walk over them counts.
pub mod Problem
pub mod Arrange
pub mod Blocker
pub mod ByStart
pub mod Orders
pub mod Earlier
pub mod Walk
pub mod Search
pub mod Groups
pub mod Certificate
pub mod inner
