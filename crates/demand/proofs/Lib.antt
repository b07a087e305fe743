-- The ledger adds up over the hours, and demand 3.
pub mod Sums
pub mod Demand
