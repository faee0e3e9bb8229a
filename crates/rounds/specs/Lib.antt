-- What the functions of a run are given and leave; none of them is an entry.
pub mod Account
pub mod Rounds
