pub mod Table
pub mod Rows
pub mod Stored
pub mod Refused
pub mod Keep
pub mod Files
pub mod Header
