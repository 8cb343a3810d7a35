-- Request files written, and the way there and back.
pub mod Writing
pub mod WritingLaws
pub mod PutsLaws
pub mod OutLaws
pub mod RoundTripLaws
pub mod inner
