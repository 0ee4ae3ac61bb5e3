pub mod NetlistReading
pub mod Stops
