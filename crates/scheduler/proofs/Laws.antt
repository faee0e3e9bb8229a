-- What holds of the bytes that are written and of what is answered, in named modules.
pub mod ScheduleBytes
pub mod RowBytes
pub mod Writing
pub mod RunBytes
pub mod Choices
pub mod RunAnswers
