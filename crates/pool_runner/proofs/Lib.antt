-- The laws of the runner.
pub mod Laws
