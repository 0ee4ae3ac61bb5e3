pub mod Block
pub mod Structure
pub mod Uses
pub mod Plan
pub mod Planned
pub mod private
