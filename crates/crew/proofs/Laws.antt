-- What holds of sets of workers as numbers, of walks over them, and of lines of workers.
pub mod Members
pub mod Lows
pub mod Walks
pub mod Folds
pub mod Crews
pub mod Packing
pub mod Shifting
pub mod Lines
