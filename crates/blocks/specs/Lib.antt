-- Rows by submarket, their blocks, and sharing over them.
pub mod Portion
pub mod Blocks
