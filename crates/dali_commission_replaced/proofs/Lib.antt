pub mod Accepted
mod Cut
pub mod Failed
pub mod Finished
pub mod Given
pub mod Ruled
