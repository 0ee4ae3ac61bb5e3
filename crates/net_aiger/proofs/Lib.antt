pub mod PortOrder
mod NumberLemmas
pub mod NameLemmas
mod AloneLemmas
mod UnnamedLemmas
mod SharedLemmas
pub mod MakeLemmas
pub mod AwaitLemmas
pub mod DriveLemmas
pub mod KeepLemmas
mod EntryLemmas
mod LineLemmas
mod SectionLemmas
mod StepLemmas
pub mod TextLemmas
pub mod RepeatLemmas
mod ReadLemmas
pub mod AigerDetermined
mod ValueLemmas
mod PlainLemmas
mod LiteralLemmas
pub mod PortLemmas
mod Examples
