pub mod Come
pub mod Filling
pub mod Permit
pub mod Standing
pub mod Swap
pub mod Swapping
pub mod Tables
