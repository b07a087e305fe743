-- The month as C keeps it.
pub mod Months
pub mod Laws
