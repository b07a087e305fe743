-- Laws of the rows that columns hold.
pub mod Rows
pub mod Places
pub mod Whole
