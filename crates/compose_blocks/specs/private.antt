pub mod Refusals
pub mod Found
