-- Laws of figures.
pub mod Decimal
pub mod Signs
pub mod Written
pub mod Digits
pub mod Promised
