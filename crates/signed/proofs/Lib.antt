-- Laws of signed figures, for this crate's proofs and for those above it.
pub mod View
pub mod Machine
pub mod Laws
pub mod Sums
pub mod Accounts
