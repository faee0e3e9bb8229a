-- The laws of a turn.
pub mod Laws
