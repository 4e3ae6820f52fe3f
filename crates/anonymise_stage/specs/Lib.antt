pub mod Step
pub mod Ranges
pub mod Segments
pub mod Table
pub mod Prepared
