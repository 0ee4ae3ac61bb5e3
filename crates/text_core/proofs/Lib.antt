pub mod LineLemmas
pub mod DigitLemmas
pub mod AsciiLemmas
pub mod RunLemmas
pub mod ByteLemmas
pub mod WrittenLemmas
pub mod WrittenDigitLemmas
pub mod JoinedLemmas
pub mod WalkLemmas
mod Examples
