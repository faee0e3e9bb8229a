-- What a reader must believe of rows, of the jobs that live and of schedules, in document 01's order.
pub mod Row
pub mod Ready
pub mod Living
pub mod Schedule
