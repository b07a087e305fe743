-- Laws of the ledger, for this crate's proofs and for those above it.
pub mod Bounds
pub mod Lists
pub mod Posting
pub mod Sums
