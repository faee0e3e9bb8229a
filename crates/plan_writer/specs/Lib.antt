-- What a reader must believe of a plan's bytes: Writer, and of who writes them: Written. The others say what functions that are no
-- entries are given and do.
pub mod Writer
pub mod Written
pub mod Given
pub mod ActionBits
