pub mod Dotted
pub mod Groups
pub mod Digits
pub mod Hexadecimal
