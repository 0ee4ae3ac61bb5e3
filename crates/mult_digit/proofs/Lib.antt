pub mod BindingLemmas
pub mod FeedLemmas
pub mod FinalLemmas
pub mod FormLemmas
pub mod JobLemmas
pub mod LatchLemmas
pub mod MakerLemmas
pub mod PlanForLemmas
pub mod PowerLemmas
pub mod ShapeLemmas
pub mod ShortLemmas
pub mod ValueLemmas
pub mod WordLemmas
mod Examples
