pub mod LawLemmas
pub mod ItemLemmas
