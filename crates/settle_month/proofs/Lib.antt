-- Laws of what the program takes from its input.
pub mod Parts
