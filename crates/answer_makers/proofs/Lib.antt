pub mod MakeLemmas
pub mod TrialLemmas
pub mod SettingFieldLemmas
pub mod MadeLemmas
pub mod MadeTextLemmas
