-- Document 01, 'Plants, profile, ledger': the ledger as definitions.
pub mod Ledger
pub mod Posting
