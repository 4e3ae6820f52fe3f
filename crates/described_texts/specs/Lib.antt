pub mod Read
pub mod Reports
