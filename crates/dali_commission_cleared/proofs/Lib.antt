pub mod Cleared
pub mod Filled
pub mod Frames
