-- First fit: what it is, what it answers, and what it promises.
pub mod FirstFit
pub mod LowestFree
pub mod Suffices
pub mod inner
