pub mod Steps
pub mod Written
pub mod Asked
pub mod Standings
pub mod Tried
pub mod Lawfully
pub mod Larger
pub mod Ran
pub mod Spelled
mod Blocks
pub mod Giving
pub mod Acts
pub mod Outstanding
pub mod Rules
pub mod Done
pub mod Questions
pub mod Puttings
pub mod Ruled
mod Looked
