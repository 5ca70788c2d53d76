-- What the frames of an opening, of a search and of a visit do to the gear that are wanted, and that a search which nobody answers has found all.
pub mod Halves
pub mod Opening
pub mod AllFound
pub mod Called
pub mod Traced
pub mod Rolled
pub mod Wanted
pub mod Leaving
pub mod Heard
pub mod Opened
pub mod Withdrawing
pub mod Programming
