-- Laws of lists of four figures a row, and of rows that stand by submarket.
pub mod Fours
pub mod Submarkets
