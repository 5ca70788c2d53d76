pub mod Failures
pub mod Progress
pub mod Reports
pub mod Said
pub mod Tables
