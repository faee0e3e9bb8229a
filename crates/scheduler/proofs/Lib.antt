-- The laws that the proofs of the runner cite.
pub mod Laws
