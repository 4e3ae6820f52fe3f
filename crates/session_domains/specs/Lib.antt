pub mod Domain
pub mod Session
