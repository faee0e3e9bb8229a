-- The laws that proofs of this crate cite.
pub mod Laws
