pub mod Places
pub mod Sources
pub mod Gates
pub mod Nets
pub mod Unrolled
pub mod Counts
pub mod private
