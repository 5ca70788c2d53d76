pub mod Table
pub mod Bus
pub mod Pins
pub mod Breaks
pub mod Pairs
pub mod Transactions
pub mod Words
