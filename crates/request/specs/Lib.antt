-- What a request is, when it is sound, which problem it poses, and what it is as a file.
pub mod View
pub mod Check
pub mod DemandTest
pub mod Steps
pub mod Sound
pub mod Whole
pub mod Encoding
pub mod RoundTrip
pub mod Packing
pub mod Sharing
pub mod Told
pub mod inner
