pub mod Lists
pub mod Members
pub mod Befores
pub mod Giving
pub mod Transactions
pub mod Firsts
pub mod Senders
pub mod Found
pub mod Codes
mod Matching
mod Fronts
mod Examples
