-- The plant table's rows.
pub mod Plants
pub mod Table
pub mod Laws
