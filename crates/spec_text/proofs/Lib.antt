pub mod ReadTokens
pub mod TokenLemmas
pub mod TextTokenLemmas
pub mod GrammarLemmas
pub mod OneOutcomeLemmas
pub mod FrontLemmas
pub mod SomeTokenLemmas
pub mod MoveLemmas
pub mod WalkLemmas
pub mod PrefixLemmas
pub mod SaidLemmas
pub mod GoodLemmas
pub mod ReadLemmas
pub mod ExistsLemmas
mod Examples
