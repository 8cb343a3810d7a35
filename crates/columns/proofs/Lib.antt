-- The laws of the definitions.
pub mod ColumnsLaws
pub mod WholeLaws
