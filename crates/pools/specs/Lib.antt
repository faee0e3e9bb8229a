-- What a reader must believe of a run from a central pool, in the order of document 02, L1. Trace is cited by laws and private contracts.
pub mod State
pub mod Take
pub mod Turn
pub mod Run
pub mod Claim
pub mod Fewest
pub mod Trace
pub mod Cases
