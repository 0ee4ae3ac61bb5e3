pub mod DeterminedLemmas
pub mod ForEachDetermined
pub mod StepLemmas
pub mod SomeLemmas
mod Examples
