pub mod Entries
pub mod Outputs
pub mod Behind
pub mod Logs
pub mod Logged
