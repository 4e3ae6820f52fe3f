pub mod Direct
pub mod Words
