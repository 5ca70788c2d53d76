pub mod Addresses
pub mod Columns
pub mod Gear
pub mod Row
