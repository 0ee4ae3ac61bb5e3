pub mod WordLemmas
pub mod SpelledLemmas
pub mod OptionLemmas
pub mod SimplifyLemmas
pub mod ValueLemmas
pub mod MadeWordsLemmas
pub mod CommandTable
pub mod OneCommandLemmas
pub mod StepLemmas
pub mod OneLineLemmas
mod Examples
