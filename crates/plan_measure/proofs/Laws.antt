-- What holds of the definitions in specs/, in named modules.
pub mod Work
pub mod Largest
pub mod Paths
pub mod Follows
pub mod Chains
pub mod Times
pub mod Sends
pub mod Clock
pub mod Parallel
pub mod Measuring
