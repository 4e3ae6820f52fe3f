pub mod Field
pub mod Prepared
