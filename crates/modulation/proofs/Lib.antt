-- Laws of steps 1 and 2.
pub mod Digits
pub mod Profile
