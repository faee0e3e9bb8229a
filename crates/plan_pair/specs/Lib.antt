-- What a reader must believe of two plans in one build: Pair. Given says what functions that are no entries are given and leave.
pub mod Pair
pub mod Given
