pub mod HighPowers
pub mod ByPowers
