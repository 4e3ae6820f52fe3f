pub mod TouchLemmas
pub mod DueLemmas
pub mod StepLemmas
pub mod SetLemmas
