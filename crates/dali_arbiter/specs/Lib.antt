pub mod Numbers
pub mod Arbiter
pub mod Held
