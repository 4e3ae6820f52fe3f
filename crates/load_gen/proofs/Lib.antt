pub mod DrawnLemmas
pub mod LeftLemmas
