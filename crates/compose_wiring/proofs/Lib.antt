pub mod ListLemmas
pub mod NamesLemmas
pub mod WordsLemmas
pub mod KeyLemmas
pub mod LinkedLemmas
pub mod RowLemmas
pub mod StepLemmas
pub mod PlainLemmas
pub mod FirstLemmas
pub mod WiringLemmas
pub mod InstancedLemmas
pub mod WholeLemmas
pub mod OneAnswerLemmas
mod Examples
