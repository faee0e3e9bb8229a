-- What a reader must believe of the exported functions' numbers: Plain. Few says what a function that is not exported is given.
pub mod Plain
pub mod Few
