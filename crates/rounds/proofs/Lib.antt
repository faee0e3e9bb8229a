-- The laws that the proofs of a run cite.
pub mod Laws
