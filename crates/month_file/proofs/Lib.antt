-- Laws of the month file's bytes.
pub mod Bytes
pub mod Collected
pub mod Parts
pub mod Ends
pub mod Run
