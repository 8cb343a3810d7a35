-- What the calls for C answer.
pub mod Host
pub mod Certified
