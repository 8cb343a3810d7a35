-- The laws of the definitions.
pub mod PlanReadingLaws
pub mod PlanPackingLaws
pub mod PlanRowsLaws
pub mod PlanFileLaws
pub mod RowsInFileLaws
pub mod RowsEncodedLaws
pub mod RowsBackLaws
pub mod InOrderLaws
pub mod AlikeLaws
pub mod RoundTripLaws
