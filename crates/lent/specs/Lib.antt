-- Lent buffers: room for what is written, and what they hold afterwards.
pub mod Lent
pub mod LentLaws
