-- The program `settle-month`: what it makes of the parts that it reads.
pub mod Input
