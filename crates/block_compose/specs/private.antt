pub mod Blocks
pub mod Planned
