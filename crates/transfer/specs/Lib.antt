-- The transfer step: its table, its promises, and the public call.
pub mod Transfer
pub mod Laws
pub mod Calls
