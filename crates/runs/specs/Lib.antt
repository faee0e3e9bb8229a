-- What a reader must believe of a run, in document 01's order. Trace is cited by laws, Parts by proofs and private contracts.
pub mod Setting
pub mod Tally
pub mod State
pub mod Turn
pub mod Steal
pub mod Run
pub mod Misses
pub mod Claim
pub mod Trace
pub mod Cases
pub mod Parts
