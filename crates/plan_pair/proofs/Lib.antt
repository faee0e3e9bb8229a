-- The laws that proofs of this crate and of the crates above cite, and numbers that tell the rules from errors close to them.
pub mod Laws
pub mod Contrasts
