-- Lines of text: fields, the reader of a line.
pub mod Fields
pub mod Reading
pub mod Laws
pub mod Inner
