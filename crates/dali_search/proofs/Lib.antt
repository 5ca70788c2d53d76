pub mod Agreement
pub mod Ascents
pub mod Blocks
pub mod Bytes
mod Heard
mod Narrowing
pub mod Questions
pub mod TrueAnswers
mod Led
pub mod Answered
