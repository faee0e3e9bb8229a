-- What the functions of a turn are given and leave; none of them is an entry.
pub mod Count
pub mod Progress
pub mod Rows
pub mod Finish
pub mod Moments
