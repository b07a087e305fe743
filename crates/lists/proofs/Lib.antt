-- Laws of the definitions, and the laws by which loops over slices are proved.
pub mod Questions
pub mod Loops
pub mod Sums
pub mod Parts
pub mod Bounds
pub mod Columns
pub mod Rows
pub mod Written
