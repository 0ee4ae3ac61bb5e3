pub mod BasisLemmas
pub mod BitLemmas
pub mod StageLemmas
pub mod StageValueLemmas
