-- What holds of the definitions in specs/, in named modules.
pub mod Reading
pub mod Turned
pub mod RoundTrip
