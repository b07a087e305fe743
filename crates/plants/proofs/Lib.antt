-- Laws of the plants' figures.
pub mod Submarkets
pub mod Table
