pub mod Kind
pub mod Line
pub mod Made
pub mod Forms
pub mod Puts
