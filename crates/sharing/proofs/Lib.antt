-- Laws of sharing.
pub mod Sharing
