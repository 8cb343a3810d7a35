-- The laws of the definitions.
pub mod OrderLaws
pub mod LowestFreeLaws
pub mod PlacementLaws
pub mod FirstFitLaws
pub mod PromiseLaws
pub mod SufficesLaws
