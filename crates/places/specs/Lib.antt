-- A field by its start and its length.
pub mod Parts
pub mod Laws
