-- Definitions on lists of figures.
pub mod Lists
pub mod Questions
pub mod Columns
