-- What the functions of a turn are given and leave; none of them is an entry.
pub mod Pooled
pub mod Moments
