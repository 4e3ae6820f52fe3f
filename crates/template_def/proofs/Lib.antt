pub mod WalkLemmas
pub mod ReadLemmas
pub mod PutLemmas
