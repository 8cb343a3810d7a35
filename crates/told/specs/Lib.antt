-- What is told of a request file, and its laws.
pub mod RequestTold
pub mod FileTold
pub mod FileLaws
pub mod ToldLaws
