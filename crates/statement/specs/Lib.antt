-- Document 01, 'The file and its statement': the statement's bytes.
pub mod Statement
pub mod Worked
pub mod Lengths
pub mod Writing
pub mod Laws
