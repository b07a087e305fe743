-- The plant table as five columns, and as rows.
pub mod Records
pub mod Tables
pub mod Laws
