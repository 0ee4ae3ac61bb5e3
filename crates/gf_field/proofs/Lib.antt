pub mod SharedLemmas
pub mod ShiftAndAddLaws
pub mod PartLaws
pub mod TableStepLemmas
pub mod ShiftLemmas
pub mod CopyLemmas
pub mod FirstOutsideLemmas
mod Examples
