pub mod FedBitLemmas
pub mod CycleBitLemmas
pub mod SettledLemmas
pub mod JobRunLemmas
pub mod PlainLemmas
pub mod CyclesLemmas
pub mod EvaluationLemmas
pub mod PlainStageLemmas
