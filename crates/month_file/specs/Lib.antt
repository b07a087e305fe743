-- Document 01, 'The file and its statement': the bytes of the month file, taken in parts of any size.
pub mod Worked
pub mod Bytes
pub mod Machine
pub mod Run
