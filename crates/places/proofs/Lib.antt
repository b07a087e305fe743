-- Laws of a field's start and length.
pub mod Places
