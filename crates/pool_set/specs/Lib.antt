-- The pool of a run.
pub mod Pool
