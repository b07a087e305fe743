-- Document 01, 'The questions', 2 to 11 and 19.
pub mod Questions
