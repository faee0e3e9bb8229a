-- The laws of sets and lines of workers.
pub mod Laws
