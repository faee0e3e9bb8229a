-- Numbers of small runs from a pool, and the laws of these runs.
-- Contrasts stands first by name, so that an edit of a definition is refused at a number of a small run.
pub mod Contrasts
pub mod Laws
