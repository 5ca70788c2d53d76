mod Found
pub mod Frames
pub mod Told
