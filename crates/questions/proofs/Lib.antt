-- The rows' questions, and what answered questions tell.
pub mod Rows
pub mod Last
pub mod Asked
