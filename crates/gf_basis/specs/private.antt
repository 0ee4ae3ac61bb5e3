pub mod TraceWord
pub mod Coordinates
