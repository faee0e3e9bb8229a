-- The theory of lines of jobs: a line is a list of jobs, as the one that a worker holds and then its deque from the bottom up.
pub mod Bounded
pub mod Member
pub mod Shape
pub mod Chain
pub mod Progress
pub mod Act
pub mod Turn
pub mod Steal
pub mod Start
pub mod Leaves
pub mod Move
pub mod Pool
pub mod Cover
pub mod Sum
pub mod Weight
