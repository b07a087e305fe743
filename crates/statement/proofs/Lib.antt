-- Laws of the statement's lines.
pub mod Text
pub mod Parts
pub mod Limits
