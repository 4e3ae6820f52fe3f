pub mod Table
pub mod Suits
pub mod Behind
pub mod Left
