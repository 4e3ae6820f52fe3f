pub mod TreeLemmas
pub mod UnknownLemmas
