pub mod BlockSettingLemmas
pub mod BlockBaseLemmas
pub mod ComposeStopLemmas
pub mod ComposeLemmas
pub mod ComposeLineLemmas
pub mod ComposeDetermined
