pub mod Line
pub mod Places
pub mod Grows
pub mod Shape
pub mod Hot
pub mod General
pub mod Way
pub mod Front
