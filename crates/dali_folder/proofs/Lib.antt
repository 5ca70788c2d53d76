pub mod Begun
mod Lost
pub mod Moving
pub mod Names
pub mod Settled
pub mod Tried
pub mod Writing
