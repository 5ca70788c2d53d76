pub mod Ends
pub mod Tells
