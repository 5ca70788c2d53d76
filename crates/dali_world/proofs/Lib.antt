pub mod Capacity
pub mod Room
pub mod Agreeing
mod Calling
pub mod Rolls
pub mod Logs
mod Fitting
