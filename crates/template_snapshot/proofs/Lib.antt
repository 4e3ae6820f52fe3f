pub mod FrontLemmas
pub mod FrozenLemmas
