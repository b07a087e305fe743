-- Sharing: the rule, its promises, and the public call.
pub mod Sharing
pub mod Laws
pub mod Calls
