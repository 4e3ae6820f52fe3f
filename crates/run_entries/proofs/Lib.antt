pub mod AlikeLemmas
pub mod MergeLemmas
pub mod CameLemmas
pub mod ListLemmas
pub mod OrderLemmas
pub mod CountLemmas
pub mod EndLemmas
