pub mod Cut
pub mod Hanging
pub mod Mends
pub mod Runs
pub mod Tellings
