pub mod NamedWord
pub mod Hierarchy
pub mod Feeds
pub mod Values
pub mod Given
pub mod Wiring
pub mod WiredTop
