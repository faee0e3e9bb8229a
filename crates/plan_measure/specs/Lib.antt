-- What a reader must believe of the measures: Measure. Times says what functions that are no entries do and keep.
pub mod Measure
pub mod Times
