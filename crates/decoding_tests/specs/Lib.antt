pub mod DefinedIds
pub mod Shown
