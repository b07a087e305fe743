-- Document 01, 'The tally of a list' and 'Hours to prove by hand', over the definitions of the calls.
pub mod Tally
pub mod Worked
pub mod Example
