-- Laws of an hour, for any lawful rule of sharing.
pub mod Hour
pub mod Figures
pub mod Allotment
pub mod Limits
pub mod Whole
