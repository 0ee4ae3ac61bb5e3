pub mod Telling
mod RisingLemmas
mod ChoiceLemmas
mod UnivariateLemmas
mod MultipleLemmas
mod PrefixLemmas
mod SpreadLemmas
mod GroupLemmas
mod TermPartLemmas
mod FormListLemmas
mod FormsExistLemmas
mod MultiplierLemmas
mod OneTermLemmas
mod ToldLemmas
mod FirstBitLemmas
mod OneWordLemmas
mod LiftedLemmas
pub mod AllWordLemmas
pub mod TurnLemmas
pub mod ReplacedLemmas
mod CallerLemmas
mod GatheredPowersLemmas
mod SomeProductsLemmas
mod KeptLemmas
mod MappedLemmas
mod ReadFromLemmas
mod ReadAtOnceLemmas
mod LinearLemmas
mod WholeLemmas
mod WholeReadLemmas
