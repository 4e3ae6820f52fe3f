pub mod Links
pub mod Tallies
pub mod Hands
pub mod Kept
pub mod Steps
pub mod Inlets
pub mod Brings
