-- The definitions of the refusals, and their laws.
pub mod Refusal
pub mod RefusalLaws
pub mod Told
pub mod ToldLaws
