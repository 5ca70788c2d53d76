pub mod Came
pub mod Ending
pub mod Frames
pub mod Sharing
