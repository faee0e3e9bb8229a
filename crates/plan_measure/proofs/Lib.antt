-- Numbers of a small plan, and the laws that proofs of this crate and of the crates above cite.
pub mod Contrasts
pub mod Laws
