pub mod Address
