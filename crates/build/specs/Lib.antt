-- What a reader must believe of the entry: Build. The other says what a function that is no entry is given and answers.
pub mod Build
pub mod Parts
