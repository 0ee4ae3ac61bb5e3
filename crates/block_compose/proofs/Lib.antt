pub mod TakenPolys
pub mod GivenLemmas
pub mod BlockLemmas
pub mod StageLemmas
pub mod ComposeLemmas
pub mod ReadyLemmas
pub mod StepsDetermined
pub mod CompositionDetermined
mod Examples
