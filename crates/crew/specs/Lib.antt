-- Sets of workers, and lines of them.
pub mod Crew
pub mod Line
