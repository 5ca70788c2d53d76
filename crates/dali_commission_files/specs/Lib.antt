pub mod Faults
pub mod Folders
pub mod Logs
pub mod Opened
