pub mod InstanceStages
pub mod BlockStages
pub mod CompositionStages
pub mod TopStages
