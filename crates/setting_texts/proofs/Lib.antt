pub mod NumberLemmas
pub mod CutLemmas
