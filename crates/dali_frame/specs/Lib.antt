pub mod Short
pub mod Random
pub mod HexError
pub mod Hex
pub mod Priority
