-- A whole file, from its bytes to the sums of demand 3.
pub mod Sums
