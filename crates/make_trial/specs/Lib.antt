pub mod Turned
pub mod TwoInputs
pub mod Trial
