-- How one deque holds its jobs, and how an array holds sixteen deques.
pub mod Dequed
