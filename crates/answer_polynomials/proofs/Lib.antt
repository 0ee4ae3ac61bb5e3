pub mod SameRefusalLemmas
pub mod ReplyDetermined
pub mod CheckDetermined
pub mod SameDetermined
pub mod EvalDetermined
pub mod ElementLemmas
pub mod AlikeLemmas
pub mod SameLemmas
pub mod EqualLemmas
pub mod EqualFunctionLemmas
pub mod SomeComparisonLemmas
mod Examples
