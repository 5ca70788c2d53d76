pub mod Page
pub mod Again
pub mod Whole
pub mod Weaker
pub mod Gear
pub mod Scripts
pub mod Own
