pub mod RefusalLemmas
pub mod OneCircuitLemmas
pub mod Walked
pub mod ListLemmas
pub mod BlockLemmas
pub mod FoundLemmas
pub mod CircuitLemmas
pub mod PlanDetermined
