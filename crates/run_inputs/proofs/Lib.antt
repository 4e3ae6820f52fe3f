pub mod MadeLemmas
pub mod EndLemmas
pub mod TotalLemmas
