-- Figures as text: written and read.
pub mod Figures
pub mod Laws
