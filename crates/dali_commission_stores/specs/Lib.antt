pub mod Calls
pub mod Keeping
pub mod Lent
pub mod Seen
pub mod Settled
pub mod Settling
