pub mod Accepted
pub mod Done
pub mod Nothing
pub mod Ruled
pub mod Object
pub mod Written
