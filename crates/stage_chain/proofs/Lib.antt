pub mod BehindLemmas
pub mod LeftLemmas
pub mod SuitLemmas
