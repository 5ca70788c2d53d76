pub mod Ascending
pub mod Least
pub mod Narrowing
pub mod Questions
