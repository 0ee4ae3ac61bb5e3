pub mod Scanning
pub mod Progress
