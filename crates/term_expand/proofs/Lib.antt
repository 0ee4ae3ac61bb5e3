pub mod Summed
pub mod SumValueLemmas
pub mod SquareLemmas
pub mod LeftLemmas
pub mod PowerLemmas
pub mod StageLemmas
pub mod RenamedLemmas
mod Examples
