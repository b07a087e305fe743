-- Document 01, 'The file and its statement': the month file, from its bytes to the bytes that are printed, and one line of it taken.
pub mod File
pub mod State
pub mod Lists
