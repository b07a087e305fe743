-- Document 01, 'One hour', steps 1 and 2.
pub mod Guarantee
pub mod Totals
