pub mod Faults
pub mod Words
pub mod Names
pub mod Rows
pub mod Table
pub mod Examples
pub mod Laws
