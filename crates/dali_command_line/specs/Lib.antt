pub mod Ran
pub mod Words
