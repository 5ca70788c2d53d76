pub mod Reception
pub mod Levels
pub mod Grid
pub mod Times
pub mod Windows
pub mod Edges
