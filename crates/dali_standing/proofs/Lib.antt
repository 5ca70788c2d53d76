mod Ties
mod Rows
pub mod Acts
mod Seats
mod Moves
mod Placing
mod Queues
mod Settling
mod Done
pub mod InUse
