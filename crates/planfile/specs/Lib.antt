-- Plan files read and written.
pub mod PlanReading
pub mod PlanFile
pub mod RoundTrip
pub mod inner
