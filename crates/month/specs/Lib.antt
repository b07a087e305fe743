-- Document 01, 'Calls', 'The questions' and the statement call, as definitions.
pub mod Questions
pub mod Answers
pub mod Calls
pub mod Statement
pub mod Laws
