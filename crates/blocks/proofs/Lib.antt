-- Laws of rows that stand in blocks, and those that the code goes by.
pub mod Portion
pub mod Standing
pub mod Handed
pub mod Starts
pub mod Slices
pub mod Shares
