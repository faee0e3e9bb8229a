-- What holds of the definitions in specs/, in named modules.
pub mod OpenTable
pub mod RoundTrip
pub mod Rows
pub mod RowRules
pub mod RowsInRange
pub mod TakeRows
pub mod Answers
