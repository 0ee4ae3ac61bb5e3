pub mod Places
pub mod Decimals
pub mod Entries
pub mod Steps
pub mod Gates
pub mod Standing
pub mod Keywords
pub mod Nets
