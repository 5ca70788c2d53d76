pub mod Transactions
pub mod Course
pub mod Mending
pub mod Rows
pub mod Planned
