-- Courses of turns: the one theory of rows, weights and order that every kind of run shares.
pub mod PlanShape
pub mod Space
pub mod Course
pub mod Steps
pub mod Start
pub mod Weighs
pub mod Kept
pub mod Worked
pub mod Price
pub mod Apart
pub mod Past
pub mod Peak
pub mod Order
pub mod Sample
pub mod Pool
pub mod ScheduleBytes
