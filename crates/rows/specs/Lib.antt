-- Document 01, 'One hour', steps 3 and 7, on lists of figures, one for each plant.
pub mod Steps
