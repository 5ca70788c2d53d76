mod Bytes
mod Lists
mod Machines
mod Stops
mod Halves
mod Hosts
