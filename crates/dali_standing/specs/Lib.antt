pub mod Refusals
pub mod Seats
pub mod FittedGear
pub mod Standing
pub mod Settled
