-- Document 01, 'One hour', as definitions.
pub mod Hour
pub mod Work
