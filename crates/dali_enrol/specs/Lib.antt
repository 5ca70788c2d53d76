pub mod Directory
pub mod Refusals
