-- How the objects of a run from a pool stand for its states, in named modules.
pub mod Standing
pub mod Seats
pub mod Timing
pub mod Takes
pub mod Rounds
pub mod Taking
pub mod Beginning
pub mod Noting
pub mod Marks
pub mod Answers
