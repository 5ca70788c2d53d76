mod Numbers
mod Running
pub mod Pushed
