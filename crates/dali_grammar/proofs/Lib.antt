pub mod LineLemmas
pub mod NumberLemmas
mod ClueLemmas
