-- The worked set: the requests, the calls, and the table of their answers.
pub mod Requests
pub mod Calls
pub mod Table
pub mod Worked
pub mod ByContract
