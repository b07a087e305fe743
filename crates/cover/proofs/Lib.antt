-- Laws of cover for any lawful rule, and those that the code goes by.
pub mod Cover
pub mod Serving
pub mod Meeting
