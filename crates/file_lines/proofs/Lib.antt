-- Laws of the month file's lines.
pub mod Following
pub mod Moves
pub mod Opened
pub mod Gathered
pub mod Settled
pub mod Taken
