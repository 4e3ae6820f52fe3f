pub mod PlaceLemmas
pub mod EvenLemmas
