-- Laws of the transfer step.
pub mod Served
pub mod Asked
