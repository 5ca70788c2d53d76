pub mod Checked
pub mod Frames
pub mod Ruled
