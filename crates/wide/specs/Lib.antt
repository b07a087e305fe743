-- What the contracts of wide cite.
pub mod Head
