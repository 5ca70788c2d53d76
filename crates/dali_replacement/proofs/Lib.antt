pub mod Every
pub mod Filled
pub mod Heard
pub mod Moments
pub mod Putting
pub mod Reading
mod Looked
