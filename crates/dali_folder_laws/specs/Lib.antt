pub mod Asides
pub mod Folder
pub mod Moments
pub mod Stops
pub mod System
