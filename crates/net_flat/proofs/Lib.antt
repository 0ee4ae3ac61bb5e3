pub mod PathLemmas
pub mod TiedLemmas
pub mod SameLemmas
pub mod StateLemmas
pub mod MarkLemmas
pub mod EndLemmas
pub mod LabelLemmas
pub mod KeepLemmas
pub mod EnterLemmas
pub mod OnceLemmas
pub mod DriveLemmas
pub mod FlatLemmas
pub mod FlatDetermined
mod Examples
pub mod LiftLemmas
pub mod DepthLemmas
pub mod InWalkLemmas
pub mod GrownLemmas
pub mod NamedLemmas
pub mod SideLemmas
pub mod LatchLemmas
pub mod PartLemmas
mod PartExamples
