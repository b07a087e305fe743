-- Laws of the month as C keeps it.
pub mod Kept
