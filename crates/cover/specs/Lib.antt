-- Own cover, the transfer table, and what each plant got.
pub mod Cover
pub mod Givers
