pub mod PlaceLemmas
pub mod MessageLemmas
pub mod LimitLemmas
pub mod ItemLemmas
pub mod PutLemmas
pub mod RunLemmas
pub mod PlacedLemmas
pub mod CountedLemmas
