pub mod Keyed
pub mod Adding
