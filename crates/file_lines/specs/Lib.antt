pub mod Texts
pub mod Session
pub mod Sessions
pub mod Work
pub mod Run
