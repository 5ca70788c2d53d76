pub mod Capture
pub mod Undisturbed
pub mod Tables
