-- Refusals and their numbers.
pub mod Numbers
