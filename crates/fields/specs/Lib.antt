-- What a reader must believe of bit fields: Field. The others say what functions that are no entries are given and leave.
pub mod Field
pub mod Sink
pub mod FieldParts
