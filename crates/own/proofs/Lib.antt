-- The laws that proofs of this crate cite, and worked examples.
pub mod Laws
pub mod Contrasts
