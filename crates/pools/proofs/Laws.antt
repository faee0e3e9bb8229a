-- The laws of runs from a pool.
pub mod Worked
pub mod Lowest
pub mod Tests
pub mod Taking
pub mod Passing
pub mod Coursed
pub mod Tallies
pub mod Greedy
pub mod Whole
pub mod Claimed
pub mod Fewest
