-- What holds of a turn over the runner's objects, in named modules.
pub mod Heirs
pub mod Running
pub mod Sending
pub mod Handing
pub mod Burying
pub mod Turning
