-- A request's numbers as columns.
pub mod Columns
