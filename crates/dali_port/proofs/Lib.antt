mod Levels
mod Words
pub mod Begins
mod Course
mod Runs
mod Ends
mod Stretches
mod Heard
mod Bounds
