pub mod PlaceLemmas
pub mod ShapeLemmas
pub mod LineLemmas
pub mod GrowLemmas
