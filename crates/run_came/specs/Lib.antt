pub mod Ends
pub mod Ran
pub mod Told
