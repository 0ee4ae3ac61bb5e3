pub mod HasOutcome
pub mod Spelled
pub mod Named
pub mod Held
pub mod Specified
