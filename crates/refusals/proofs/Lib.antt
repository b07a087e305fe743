-- How a function that asks by `?` answers the first no.
pub mod Asking
