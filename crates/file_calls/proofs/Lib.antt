-- What feed and finish need, decided at run time.
pub mod Checked
mod Tables
