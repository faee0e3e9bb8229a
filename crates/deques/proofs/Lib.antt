-- The laws of the sixteen deques.
pub mod Laws
