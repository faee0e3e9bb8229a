-- What holds of a deque, and of sixteen of them, as jobs come and go.
pub mod Deques
