pub mod Parsers
pub mod Session
