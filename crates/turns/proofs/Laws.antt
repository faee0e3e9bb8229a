-- What holds of a turn over the runner's arrays, and of the counts in memory.
pub mod Running
pub mod Missing
pub mod Weights
pub mod Held
pub mod Joins
pub mod Sending
pub mod Settling
pub mod Rows
