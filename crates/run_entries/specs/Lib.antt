pub mod Came
pub mod Totals
