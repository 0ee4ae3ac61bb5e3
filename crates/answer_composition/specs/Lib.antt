pub mod Compose
pub mod private
