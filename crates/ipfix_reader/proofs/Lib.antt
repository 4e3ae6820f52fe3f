pub mod SpecifierLemmas
pub mod LeftLemmas
pub mod WalkLemmas
