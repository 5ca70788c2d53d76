mod Texts
mod Open
mod Ordered
mod Inserted
mod Effects
mod Taken
mod Known
pub mod Schemas
pub mod Left
