-- A number that a wrong definition breaks, and the laws of courses.
-- Contrasts stands first by name, so that an edit of a definition is refused there first.
pub mod Contrasts
pub mod Laws
