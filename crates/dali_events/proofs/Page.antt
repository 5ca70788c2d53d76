-- A run as the page of `dali_statement` sees it, event by event.
pub mod Sites
pub mod Bridge
pub mod Events
pub mod Frames
pub mod Runs
