pub mod Walk
pub mod Left
pub mod Place
