-- What is printed: numbers in decimal, lines of words and numbers, the page that holds them, and that no row of a plan is left out.
pub mod Text
pub mod TextLaws
pub mod Lines
pub mod LinesLaws
pub mod SignedLaws
pub mod Rows
pub mod RowsLaws
pub mod Report
pub mod ReportLaws
pub mod ReportExample
pub mod Printed
pub mod PrintedLaws
