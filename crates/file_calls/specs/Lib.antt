-- The month file's calls for any caller.
pub mod Checking
