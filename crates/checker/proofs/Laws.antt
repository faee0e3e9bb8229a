-- What holds of the definitions in specs/, in named modules.
pub mod Header
pub mod RowWords
pub mod Form
pub mod Keeping
pub mod Chains
pub mod Buckets
pub mod Digits
pub mod Busy
pub mod Senders
pub mod Following
pub mod Standing
pub mod Judging
