pub mod SharedLemmas
pub mod Functions
pub mod AgreeLemmas
pub mod BitLemmas
pub mod BoundLemmas
pub mod FeedLemmas
pub mod JobLemmas
pub mod JobBoundLemmas
pub mod TakenLemmas
pub mod ChoiceLemmas
pub mod GivenLemmas
pub mod DifferingLemmas
pub mod OneRunLemmas
pub mod OnesLemmas
pub mod OutLemmas
pub mod OutputBasisLemmas
pub mod OutputNetsLemmas
pub mod PlaceLemmas
pub mod PlainLemmas
pub mod SliceLemmas
pub mod SomeRunLemmas
pub mod SourceLemmas
pub mod WordLemmas
pub mod Examples
mod OnesExamples
mod JobExamples
