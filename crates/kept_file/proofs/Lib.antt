-- Laws of the month file's state as C keeps it.
pub mod KeptFiles
