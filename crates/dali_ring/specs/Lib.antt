pub mod Numbers
pub mod Block
pub mod Fresh
pub mod Linked
pub mod Queues
