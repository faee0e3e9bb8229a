-- Numbers of small runs, and the laws of runs.
-- Contrasts stands first by name, so that an edit of a definition is refused at a number of a small run.
pub mod Contrasts
pub mod Laws
