pub mod Composed
pub mod private
