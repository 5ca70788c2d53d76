pub mod Counts
pub mod Closing
pub mod Leaving
mod Storing
mod Driving
mod Learning
mod Running
mod Telling
