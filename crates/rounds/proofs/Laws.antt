-- How the objects of a run stand for its states from loop to loop, in named modules.
pub mod Standing
pub mod Halves
pub mod Queues
pub mod Idling
pub mod Beginning
pub mod Manning
pub mod Stealing
pub mod FirstHalf
pub mod SecondHalf
