pub mod CutKey
pub mod CutTerms
pub mod Buckets
pub mod EntryList
pub mod Pairs
pub mod Rows
pub mod LowBits
pub mod FirstCut
