pub mod Scanning
pub mod Reading
pub mod Units
pub mod Waiting
pub mod Generators
pub mod Held
pub mod Squares
pub mod Kept
