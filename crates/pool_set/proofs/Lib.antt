-- The laws of the pool of a run.
pub mod Laws
