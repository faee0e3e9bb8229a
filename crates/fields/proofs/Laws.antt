-- What holds of the definitions in specs/, in named modules.
pub mod Bits
pub mod Window
pub mod Sink
pub mod Puts
pub mod Readings
pub mod Seams
