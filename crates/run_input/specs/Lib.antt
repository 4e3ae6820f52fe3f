pub mod Sums
pub mod Standing
pub mod Inputs
