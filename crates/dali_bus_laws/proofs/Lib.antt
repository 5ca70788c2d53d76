mod Seen
pub mod Spans
mod Taken
mod Begun
pub mod Two
pub mod Broken
mod Without
mod Pairs
mod Transactions
pub mod Words
