-- The month file's state as C keeps it.
pub mod Files
pub mod Laws
