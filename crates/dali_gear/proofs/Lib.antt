pub mod Places
pub mod RowLemmas
