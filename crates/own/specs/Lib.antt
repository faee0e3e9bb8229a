-- What a reader must believe of the theorems.
pub mod RoundTrip
pub mod Forms
