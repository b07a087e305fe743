-- Laws of lines.
pub mod Commas
pub mod Parts
pub mod Starts
pub mod Lines
pub mod Accepted
pub mod Back
pub mod Promised
