pub mod Making
pub mod Run
pub mod Shared
