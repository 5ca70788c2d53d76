pub mod Setup
pub mod Drawn
pub mod Ran
pub mod Report
pub mod Json
pub mod Told
