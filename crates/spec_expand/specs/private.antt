pub mod Expanding
pub mod Names
