pub mod SharedLemmas
pub mod GraphLemmas
pub mod RowLemmas
pub mod GroundLemmas
pub mod LawLemmas
pub mod LoopLemmas
pub mod CycleLemmas
pub mod WalkLemmas
mod Examples
