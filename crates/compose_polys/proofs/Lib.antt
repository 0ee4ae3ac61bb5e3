pub mod ValueLemmas
pub mod StageLemmas
mod InstanceExamples
pub mod FeedLemmas
pub mod OrderLemmas
mod FeedExamples
pub mod LevelLemmas
pub mod KeyLemmas
pub mod AfterLemmas
mod LevelExamples
pub mod WiredLemmas
pub mod PointLemmas
pub mod ComposedLemmas
pub mod OrderedLemmas
pub mod GraphLemmas
