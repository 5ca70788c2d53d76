pub mod Collisions
mod FirstList
mod Lists
