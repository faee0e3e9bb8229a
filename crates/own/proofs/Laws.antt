-- What holds of the definitions in specs/, in named modules.
pub mod RoundTrip
pub mod Wrote
pub mod OwnSchedule
pub mod Forms
pub mod EqualRuns
