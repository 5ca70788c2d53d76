mod Sent
mod Sparing
mod Tabled
mod Histories
mod Kept
mod Planned
