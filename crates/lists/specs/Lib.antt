pub mod Lists
pub mod Limits
pub mod laws
