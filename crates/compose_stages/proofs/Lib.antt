pub mod OrderLemmas
pub mod LevelLemmas
pub mod BlockLemmas
pub mod ValueLemmas
pub mod SomeValuesLemmas
pub mod StageLemmas
pub mod OneInstanceLemmas
pub mod UsedLemmas
pub mod JoinLemmas
pub mod LastLemmas
pub mod SomeStageLemmas
pub mod SizedLemmas
pub mod DecidedLemmas
pub mod DecidedBlockLemmas
mod Examples
