-- What stands before the number of a failure.
pub mod Words
pub mod WordsLaws
