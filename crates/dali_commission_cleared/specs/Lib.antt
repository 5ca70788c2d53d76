pub mod Clearing
pub mod Erasing
