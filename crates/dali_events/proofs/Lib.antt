pub mod Plans
pub mod Interrupted
pub mod Invariant
pub mod Page
pub mod Search
mod Telling
pub mod Histories
