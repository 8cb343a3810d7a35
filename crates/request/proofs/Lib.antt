-- What proofs about requests share.
pub mod Arrays
pub mod ViewLaws
pub mod CheckLaws
pub mod RouteLaws
pub mod PathLaws
pub mod StepsLaws
pub mod SoundLaws
pub mod LimitsLaws
pub mod EncodingLaws
pub mod SignedLaws
pub mod PackingLaws
pub mod RateLaws
pub mod ToldLaws
