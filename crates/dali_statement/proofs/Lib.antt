pub mod Tests
pub mod One
pub mod Moved
pub mod Sound
pub mod Steps
mod Records
pub mod Whole
mod Again
mod Histories
pub mod Gear
pub mod Rows
pub mod Scripts
pub mod Own
mod Programs
mod Befores
