pub mod Runs
pub mod Unopened
