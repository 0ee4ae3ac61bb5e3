pub mod NamesLemmas
pub mod InputsLemmas
pub mod PlaceLemmas
pub mod InstanceLemmas
pub mod OutputLemmas
pub mod OneValueLemmas
