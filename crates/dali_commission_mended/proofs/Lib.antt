pub mod Cut
pub mod Frames
pub mod Mended
pub mod Ruled
