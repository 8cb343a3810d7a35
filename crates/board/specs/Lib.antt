-- One demand placed beside what stands.
pub mod Board
pub mod Named
pub mod inner
