mod Bytes
mod Texts
mod Logged
mod Dumped
mod ByLines
