-- What holds of the pool of a run.
pub mod Jobs
pub mod Start
