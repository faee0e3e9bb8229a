-- What a reader must believe of plans turned into the other form: Forms. Given says what functions that are no entries answer.
pub mod Forms
pub mod Given
