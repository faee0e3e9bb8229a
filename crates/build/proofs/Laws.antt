-- What holds of the definitions in specs/, in named modules.
pub mod Builds
pub mod BuildClaim
