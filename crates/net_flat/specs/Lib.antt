pub mod Paths
pub mod Steps
pub mod Walk
pub mod Flat
pub mod Part
pub mod private
