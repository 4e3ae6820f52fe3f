pub mod Says
pub mod Ended
pub mod Rows
