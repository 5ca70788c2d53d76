pub mod Bytes
mod HexLemmas
