pub mod Draws
pub mod Load
pub mod Said
pub mod Examples
