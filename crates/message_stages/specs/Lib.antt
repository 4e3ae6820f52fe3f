pub mod Behind
pub mod Message
pub mod Sets
