pub mod Events
pub mod Folder
pub mod Lying
