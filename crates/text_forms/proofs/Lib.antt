pub mod ListedLemmas
pub mod LineLemmas
pub mod SetLemmas
