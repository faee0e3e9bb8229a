-- What a reader must believe of the open table: Table. The others say what private functions are given and do.
pub mod Table
pub mod GivenRows
