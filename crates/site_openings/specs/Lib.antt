pub mod Out
pub mod Places
pub mod Sinks
pub mod All
