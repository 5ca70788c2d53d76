-- The census of a survey: how many frames it sends, that what is given afterwards was silent, and who is in the table.
pub mod Left
pub mod Asked
pub mod Course
pub mod Coming
pub mod Silent
pub mod Spelled
