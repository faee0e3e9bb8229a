-- What a reader must believe of the entry: Entry. The others say what functions that are no entries are given and leave.
pub mod Entry
pub mod Choices
pub mod RunRead
pub mod Written
