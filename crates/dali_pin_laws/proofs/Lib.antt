pub mod Frames
pub mod Runs
