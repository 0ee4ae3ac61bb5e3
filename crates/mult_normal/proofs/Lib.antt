pub mod CoordinateLemmas
pub mod FormLemmas
pub mod JobLemmas
pub mod LatchLemmas
pub mod PlanForLemmas
pub mod ProductLemmas
pub mod ShapeLemmas
pub mod WordLemmas
mod Examples
