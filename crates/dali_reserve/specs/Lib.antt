pub mod Refusals
pub mod Store
