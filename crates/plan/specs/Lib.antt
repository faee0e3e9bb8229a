-- What a reader must believe of the plan: Refusal to Reader. The others say what functions that are no entries are given and leave.
pub mod Refusal
pub mod Test
pub mod Plan
pub mod Rules
pub mod Reader
pub mod Contract
pub mod Told
pub mod Sheet
pub mod Entering
pub mod Found
pub mod Progress
pub mod Action
pub mod Listed
pub mod Kept
