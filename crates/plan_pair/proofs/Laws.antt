-- What holds of the definitions in specs/, in named modules.
pub mod Under
pub mod Pairing
pub mod Spawns
pub mod Counting
pub mod Joins
pub mod Limits
pub mod Accepting
pub mod Weights
pub mod Times
pub mod Sums
pub mod Together
pub mod Laying
pub mod Aside
pub mod Taking
pub mod Answers
