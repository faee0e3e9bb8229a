-- What a reader must believe of the entry: Answer. The others say what private functions are given and leave.
pub mod Answer
pub mod Chains
pub mod Rows
pub mod Formed
pub mod Buckets
pub mod Busy
pub mod Senders
pub mod Judging
pub mod Given
